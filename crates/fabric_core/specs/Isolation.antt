-- Which domain an event is of, what of a fabric is a domain's, and what each event leaves as it was (PCIe 4.0, 6.12).
use Rattle.std.specs.Prelude.{◌≡◌, ⊤, ℕ, ◌==◌, ◌⊎◌, Bool, false, is_none, is_some, List, [], ◌∷◌, ◌++◌, filter, map, slice_index_or, Option, Some, None, option_map}
use Rattle.std.specs.Option.{option_and_then}
use Rattle.fab_types.specs.declared.class.Class.{Class}
use Rattle.fab_types.specs.declared.faults.begin.BeginFault.{BeginFault}
use Rattle.fab_types.specs.declared.faults.begin.BeginFault.TheVariants as begin
use Rattle.fab_types.specs.declared.outcome.Outcome.{Outcome}
use Rattle.frame_log.specs.Descriptor.{Descriptor}
use Rattle.domain.specs.declared.entry.Entry.{Entry}
use Rattle.domain.specs.Domains.{DomainView}
use Rattle.domain_state.specs.HostAccesses.{mmio_fault}
use Rattle.domain.specs.Machine.{step}
use Rattle.domain.specs.Submits.{submit_fault}
use Rattle.domain.specs.Ticks.{tick_fault}
use Rattle.domains.specs.Agents.{waiting_of}
use Rattle.link.specs.Channels.{Channel}
use Rattle.lane.specs.Lanes.{eligible}
use Rattle.domains.specs.Domains.{domain_at, place_of, place_of_function}
use Rattle.topology.specs.Links.{sender_of}
use Rattle.topology.specs.declared.nodes.LinkEnd.{LinkEnd}
use Rattle.interconnect.specs.Moves.{channel_at}
use Rattle.interconnect.specs.Passes.{index_of, no_place}
use Rattle.fabric_core.specs.declared.event.Event.{Event}
use Rattle.fabric_core.specs.declared.event.Event.TheVariants.{Submit, Tick, Mmio, Enter, Pass, Send, Take, Credit, Root, Arrive}
use Rattle.fabric_core.specs.Arrivals.{Taken, taken, taken_at, to_function, to_host}
use Rattle.fabric_core.specs.Events.{StepsTo, effect, refusal}
use Rattle.fabric_core.specs.World.{World}

-- ---- the domain of an event

-- the domain of this number
abbrev pub domain_of : World → ℕ → Option DomainView
domain_of w d = domain_at w.agents.domains (place_of w.agents.domains d)

-- the domain that a function is of
abbrev pub domain_of_function : World → ℕ → Option DomainView
domain_of_function w function = domain_at w.agents.domains (place_of_function w.agents.domains function)

abbrev pub number_of : Option DomainView → Option ℕ
number_of all = option_map (λ d. d.share.domain) all

-- the home of the packet that is taken
abbrev pub home_of : Option (Descriptor × List Descriptor) → Option ℕ
home_of all = option_map (λ t. t.0.domain) all

abbrev pub home_of_taken : Option Taken → Option ℕ
home_of_taken all = option_map (λ t. t.frame.domain) all

-- of the eligible one of a class at the sender
abbrev pub home_sent : World → Class → LinkEnd → Option ℕ
home_sent w class end = home_of (eligible class (channel_at w.channels end).egress)

-- of the oldest one of these
abbrev pub home_oldest : List Descriptor → Option ℕ
home_oldest [] = None
home_oldest (frame ∷ frames) = Some frame.domain

-- of the oldest one on the wire
abbrev pub home_travelling : World → LinkEnd → Option ℕ
home_travelling w end = home_oldest (channel_at w.channels end).wire

-- of the eligible one that came into a port
abbrev pub home_passed : World → Class → ℕ → Option ℕ
home_passed w class i = home_of_taken (taken_at w.channels class (slice_index_or w.tree.places i no_place).input)

-- An event that begins something is of the domain whose function or host begins it, and an event that takes a packet
-- is of that packet's home. What returns credits is of nobody
abbrev pub home : World → Event → Option ℕ
home w (Submit function bytes) = number_of (domain_of_function w function)
home w (Tick function) = number_of (domain_of_function w function)
home w (Mmio domain access) = number_of (domain_of w domain)
home w (Enter origin class) = home_of (eligible class (waiting_of w.agents.outboxes origin))
home w (Pass port class) = option_and_then (home_passed w class) (index_of w.tree.places port)
home w (Send direction class) = option_and_then (home_sent w class) (sender_of w.tree.links direction)
home w (Take direction) = option_and_then (home_travelling w) (sender_of w.tree.links direction)
home w (Credit direction) = None
home w (Root class) = home_of_taken (taken w to_host class)
home w (Arrive function class) = home_of_taken (taken w (to_function function) class)

abbrev pub is_number : ℕ → Option ℕ → Bool
is_number d None = false
is_number d (Some n) = n == d

-- is the event one of this domain? Every other event is foreign to it
abbrev pub is_event_of : World → ℕ → Event → Bool
is_event_of w d event = is_number d (home w event)

-- ---- what is a domain's

-- of these packets, those that the domain made
abbrev pub own : ℕ → List Descriptor → List Descriptor
own d frames = filter (λ frame. frame.domain == d) frames

-- its packets on a direction of a link
pub record OwnOnLink : Type 0 where
  pub egress : List Descriptor
  pub wire : List Descriptor
  pub ingress : List Descriptor

abbrev pub own_on_link : ℕ → Channel → OwnOnLink
own_on_link d c = record { egress = own d c.egress; wire = own d c.wire; ingress = own d c.ingress }

-- what is a domain's: its state with its journal, and where its packets are, in their order
pub record Part : Type 0 where
  pub domain : Option DomainView
  pub outboxes : List (List Descriptor)
  pub links : List (List OwnOnLink)

abbrev pub part : ℕ → World → Part
part d w = record {
  domain = domain_of w d;
  outboxes = map (λ box. own d box.waiting) w.agents.outboxes;
  links = map (map (own_on_link d)) w.channels;
}

-- ---- what an event leaves

-- the journal grew by one entry, and the state is what the machine makes of that
pub record HasEntered (old new : DomainView) : Type 0 where
  pub share : new.share ≡ old.share
  pub entry : Entry
  pub journal : new.journal ≡ old.journal ++ entry ∷ []
  pub state : step old.share old.state entry ≡ Some new.state

-- or there is no entry, and the state is as it was
abbrev pub EntersOnce : Option DomainView → Option DomainView → Type 0
EntersOnce None None = ⊤
EntersOnce (Some old) (Some new) = (new ≡ old) ⊎ HasEntered old new
EntersOnce None (Some new) = ⊥
EntersOnce (Some old) None = ⊥

-- the refusal of a begin by a domain's own share and state, memory aside
abbrev pub own_refusal : DomainView → Event → Option BeginFault
own_refusal d (Submit function bytes) = option_map begin.Submit (submit_fault d.share d.state function bytes)
own_refusal d (Tick function) = option_map begin.Tick (tick_fault d.share d.state function)
own_refusal d (Mmio domain access) = option_map begin.Mmio (mmio_fault d.share d.state access)
own_refusal d event = None

-- the domain whose function or host begins something
abbrev pub beginner : World → Event → Option DomainView
beginner w (Submit function bytes) = domain_of_function w function
beginner w (Tick function) = domain_of_function w function
beginner w (Mmio domain access) = domain_of w domain
beginner w event = None

-- An event leaves each domain that it is foreign to as it was: its state, its journal, and the place of each of its
-- packets. Of its own domain it makes what one entry makes, or nothing. Whether a begin is refused, and why, is said by
-- its domain's share and state, and what is not refused is accepted
pub record IsApart (old : World) (event : Event) (new : World) : Type 0 where
  pub foreign : (d : ℕ) → is_event_of old d event ≡ false → part d new ≡ part d old
  pub own : (d : ℕ) → EntersOnce (domain_of old d) (domain_of new d)
  pub refused : (d : DomainView) → beginner old event ≡ Some d → refusal old event ≡ own_refusal d event
  pub accepted : (d : DomainView) → beginner old event ≡ Some d → is_some (effect old event) ≡ is_none (own_refusal d event)

-- so it is of each event of a run
abbrev pub AreApart : World → List Event → List Outcome → World → Type 0
AreApart old [] [] new = new ≡ old
AreApart old (event ∷ events) (outcome ∷ outcomes) new =
    (mid : World) × StepsTo old event outcome mid × IsApart old event mid × AreApart mid events outcomes new
AreApart old [] (outcome ∷ outcomes) new = ⊥
AreApart old (event ∷ events) [] new = ⊥
