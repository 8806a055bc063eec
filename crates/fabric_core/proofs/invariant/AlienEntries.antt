-- What a fabric keeps where a domain has the entry of an alien packet: the packet is lost, and stays in flight at its home.
use Rattle.std.proofs.Common.{◌≡◌, ℕ, Bool, true, cond, ◌||◌, List, [], ◌∷◌, Option, Some, None, refl, ap, ◌∙◌}
use Rattle.std.specs.Prelude.{length, nat_lt, option_to_list}
use Rattle.std.specs.List.{list_all}
use Rattle.fab_types.specs.declared.head.Parties.{Parties}
use Rattle.fab_types.specs.declared.origin.Origin.{Origin}
use Rattle.fab_types.specs.declared.place.Place.{Place}
use Rattle.fab_types.specs.declared.violation.Violation.{Violation}
use Rattle.frame_log.specs.Descriptor.{Descriptor}
use Rattle.platform.specs.declared.parts.DownstreamPort.{DownstreamPort}
use Rattle.platform.specs.Share.{Share, is_guarded as is_guarded_share, is_guarded_port}
use Rattle.domain.specs.declared.entry.Entry.TheVariants.{Alien}
use Rattle.domain.specs.Aliens.{alien, received_if, reception_by}
use Rattle.request_handling.specs.Emissions.{Emission}
use Rattle.domain_state.specs.State.{Alone, Change}
use Rattle.request_handling.specs.Takers.{taker_of}
use Rattle.domain.specs.Domains.{DomainView}
use Rattle.domains.specs.Agents.{Outbox, emitted_if, home_of, joined, outbox_place}
use Rattle.link.specs.Channels.{Channel}
use Rattle.domains.specs.Aliens.{aliened_at, aliened_by, flown}
use Rattle.domains.specs.Domains.{Made, made_at}
use Rattle.fabric_core.specs.Arrivals.{Taken, ended}
use Rattle.fabric_core.specs.Invariant.{IsConsistent}
use Rattle.fabric_core.specs.Places.{frames_of}
use Rattle.fabric_core.specs.World.{World, is_guarded, with_both, with_stray}
use Rattle.fabric_core.proofs.invariant.Beginning.{has_outbox}
use Rattle.fabric_core.proofs.invariant.Changing.{Changed, then_gained}
use Rattle.fabric_core.proofs.invariant.Flying.{alien_begins}
use Rattle.fabric_core.proofs.invariant.Placing.{placed_lost}
use Rattle.fabric_core.proofs.invariant.Renewing.{SameOutputs, TakenOut, kept_with, placed_of, renewed}
use Rattle.fabric_core.proofs.invariant.Settling.{begin_reflown, agents_settled, joined_origins, made_from, share_at, shares_stay}
use Rattle.fabric_core.proofs.invariant.Standing.{held, in_outboxes, joined_waiting, on_links}

-- ---- the entry

-- it is one of the domain at this place of the list, of the packet's bytes
pub record AlienAt (ds : List DomainView) (at : Option ℕ) (place : Place) (sender : Parties) (m : Made) : Type 0 where
  pub bytes : List ℕ
  pub is : made_at ds (Alien place sender bytes) at ≡ Some m

alien_by : (ds : List DomainView) (at : Option ℕ) (place : Place) (sender : Parties) (item : Option Emission) (m : Made) → aliened_by ds at place sender item ≡ Some m → AlienAt ds at place sender m
alien_by ds at place sender None m e = absurd cc
alien_by ds at place sender (Some item) m e = record { bytes = item.bytes; is = e }

pub alien_entry : (ds : List DomainView) (at : Option ℕ) (place : Place) (frame : Descriptor) (m : Made) → aliened_at ds at place frame ≡ Some m → AlienAt ds at place frame.head.parties m
alien_entry ds at place frame m e = alien_by ds at place frame.head.parties (flown ds frame.domain frame.number) m e

-- ---- a guarded layout has none

pub alien_illegal : (share : Share) (s : Alone) (place : Place) (sender : Parties) (b : List ℕ) → is_guarded_share share ≡ true → alien share s place sender b ≡ None
alien_illegal share s place sender b guarded =
    ap (λ (is : Bool). received_if s b (cond (is || nat_lt 272 (length b)) None (reception_by share s b sender (taker_of share place)))) guarded

illegal_changes : (o : Option Change) (c : Change) → o ≡ None → o ≡ Some c → ⊥
illegal_changes o c none some = absurd cc

-- the share of each domain tells whether its layout is guarded
pub none_in_guarded : (w : World) (at : Option ℕ) (place : Place) (frame : Descriptor) (m : Made) → IsConsistent w → aliened_at w.agents.domains at place frame ≡ Some m → is_guarded w ≡ true → ⊥
none_in_guarded w at place frame m kept e guarded =
    let a = alien_entry w.agents.domains at place frame m e in
    let b = made_from w.agents.domains (Alien place frame.head.parties a.bytes) at m a.is in
    let same : b.d.share.ports ≡ w.routes.ports = share_at w.routes.ports w.agents.domains b.number b.d kept.shares b.at in
    illegal_changes (alien b.d.share b.d.state place frame.head.parties a.bytes) b.c
    (alien_illegal b.d.share b.d.state place frame.head.parties a.bytes (ap (λ (ports : List DownstreamPort). list_all is_guarded_port ports) same ∙ guarded)) b.legal

-- ---- what is kept

-- a packet was taken and is lost by such an entry; what that emits stands on these directions or in these outboxes
pub kept_lost : (w : World) (t : Taken) (at : Option ℕ) (place : Place) (m : Made) (channels : List (List Channel)) (boxes : List Outbox) (violations : List Violation) → IsConsistent w → SameOutputs w.channels channels
    → ((origin : Origin) → outbox_place boxes origin ≡ outbox_place w.agents.outboxes origin) → aliened_at w.agents.domains at place t.frame ≡ Some m
    → Changed (frames_of w) (held channels boxes w.ports w.strays) (t.frame ∷ []) (option_to_list m.sent)
    → IsConsistent (renewed w channels w.ports (record { domains = m.domains; outboxes = boxes }) violations w.strays)
kept_lost w t at place m channels boxes violations kept outputs same e c =
    let a = alien_entry w.agents.domains at place t.frame m e in
    let entry = Alien place t.frame.head.parties a.bytes in
    kept_with w channels (record { domains = m.domains; outboxes = boxes }) violations w.strays kept outputs (agents_settled w.agents boxes entry at m kept.settled same a.is)
    (shares_stay w.routes.ports w.agents.domains entry at m kept.shares a.is)
    (placed_lost w.agents.domains m.domains (frames_of w) (held channels boxes w.ports w.strays) t.frame (option_to_list m.sent) (none_in_guarded w at place t.frame m kept e) (placed_of w kept) c
    (begin_reflown w.agents entry at m kept.settled (λ d x h. alien_begins d.share d.state place t.frame.head.parties a.bytes x h) a.is))

-- the host or a function took it
kept_emitted : (w : World) (t : Taken) (origin : Origin) (at : Option ℕ) (place : Place) (m : Made) → IsConsistent w → TakenOut w t → home_of w.agents.domains origin ≡ at → aliened_at w.agents.domains at place t.frame ≡ Some m
    → IsConsistent (with_both w t.channels (record { domains = m.domains; outboxes = joined w.agents.outboxes origin m.sent }))
kept_emitted w t origin at place m kept out home e =
    let a = alien_entry w.agents.domains at place t.frame m e in
    let boxes = joined w.agents.outboxes origin m.sent in
    let boxed = has_outbox w.agents origin (Alien place t.frame.head.parties a.bytes) at m kept.settled home a.is in
    kept_lost w t at place m t.channels boxes w.violations kept out.outputs (joined_origins w.agents.outboxes origin m.sent) e
    (then_gained (frames_of w) (held t.channels w.agents.outboxes w.ports w.strays) (held t.channels boxes w.ports w.strays) (t.frame ∷ []) (option_to_list m.sent)
    (on_links w.channels t.channels w.agents.outboxes w.ports w.strays (t.frame ∷ []) [] out.changed)
    (in_outboxes t.channels w.agents.outboxes boxes w.ports w.strays [] (option_to_list m.sent) (joined_waiting w.agents.outboxes origin m.sent boxed)))

-- and if there is no such entry, it is a stray one
pub kept_alien : (w : World) (t : Taken) (origin : Origin) (at : Option ℕ) (place : Place) → IsConsistent w → TakenOut w t → home_of w.agents.domains origin ≡ at → IsConsistent (with_stray w t.channels t.frame)
    → IsConsistent (ended w t (emitted_if w.agents origin (aliened_at w.agents.domains at place t.frame)))
kept_alien w t origin at place kept out home stray = by (aliened_at w.agents.domains at place t.frame) refl
  where
    by : (o : Option Made) → aliened_at w.agents.domains at place t.frame ≡ o → IsConsistent (ended w t (emitted_if w.agents origin o))
    by None e = stray
    by (Some m) e = kept_emitted w t origin at place m kept out home e
