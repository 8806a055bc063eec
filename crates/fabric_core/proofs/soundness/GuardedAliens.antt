-- In a guarded fabric nobody gets an alien packet.
use Rattle.std.proofs.Common.{◌≡◌, ℕ, Bool, true, false, cond, List, Option, Some, None, refl, ap, ◌∙◌}
use Rattle.std.specs.Prelude.{option_map, slice_get}
use Rattle.std.specs.List.{list_all}
use Rattle.std.specs.Option.{option_and_then}
use Rattle.fab_types.specs.declared.head.Parties.{Parties}
use Rattle.fab_types.specs.declared.origin.Origin.TheVariants.{Function, Host}
use Rattle.fab_types.specs.declared.place.Place.{Place}
use Rattle.fab_types.specs.declared.place.Place.TheVariants.{Ingress}
use Rattle.frame_log.specs.Descriptor.{Descriptor}
use Rattle.platform.specs.Share.{is_guarded, is_guarded_port}
use Rattle.domain.specs.declared.entry.Entry.TheVariants.{Alien}
use Rattle.domain.specs.Domains.{DomainView}
use Rattle.request_handling.specs.Emissions.{Emission}
use Rattle.domains.specs.Agents.{AgentsView, emitted_if}
use Rattle.interconnect.specs.declared.misrouted.Misrouted.{Misrouted}
use Rattle.interconnect.specs.Misrouted.{misrouted_among}
use Rattle.lane.specs.Lanes.{Class}
use Rattle.domains.specs.Aliens.{aliened, aliened_at, aliened_by, flown, owner_of_frame}
use Rattle.domains.specs.Domains.{made_at, made_by, made_of, place_of, place_of_function}
use Rattle.fabric_core.specs.Aliens.{alien_at_function, alien_at_host, or_else, to_function, to_host}
use Rattle.received.specs.Receivers.{receiver_at_host}
use Rattle.fabric_core.specs.Arrivals.{Taken, agents_by_function, agents_by_host, own_by_function, own_by_host, taken_at}
use Rattle.received.specs.declared.received.Received.{Received}
use Rattle.fabric_core.specs.Misrouting.{Misrouting, is_at_port_of, misrouting, misrouting_by, misrouting_to, misrouting_with, pass, passed_unless}
use Rattle.fabric_core.specs.Passing.{turned}
use Rattle.fabric_core.specs.Invariant.{IsConsistent}
use Rattle.fabric_core.specs.Soundness.{IsGuardedFabric}
use Rattle.fabric_core.specs.World.{World, is_guarded as is_guarded_world}
use Rattle.fabric_core.proofs.invariant.AlienEntries.{alien_illegal}
use Rattle.fabric_core.proofs.invariant.Settling.{share_at}
use Rattle.fabric_core.proofs.soundness.SoundDomains.{share_is}

-- ---- in domains of guarded shares

-- each domain that is found at a place is of a guarded layout
abbrev pub AreOfGuarded : List DomainView → Type 0
AreOfGuarded domains = (place : ℕ) (d : DomainView) → slice_get domains place ≡ Some d → is_guarded d.share ≡ true

module _ (domains : List DomainView) (guarded : AreOfGuarded domains) where
  none_made_of : (at : ℕ) (place : Place) (sender : Parties) (bytes : List ℕ) (found : Option DomainView) → slice_get domains at ≡ found → made_of domains at (Alien place sender bytes) found ≡ None
  none_made_of at place sender bytes None e = refl
  none_made_of at place sender bytes (Some d) e = ap (option_map (made_by domains at (Alien place sender bytes) d)) (alien_illegal d.share d.state place sender bytes (guarded at d e))

  none_made : (at : Option ℕ) (place : Place) (sender : Parties) (bytes : List ℕ) → made_at domains (Alien place sender bytes) at ≡ None
  none_made None place sender bytes = refl
  none_made (Some at) place sender bytes = none_made_of at place sender bytes (slice_get domains at) refl

  none_aliened_by : (at : Option ℕ) (place : Place) (sender : Parties) (item : Option Emission) → aliened_by domains at place sender item ≡ None
  none_aliened_by at place sender None = refl
  none_aliened_by at place sender (Some e) = none_made at place sender e.bytes

  pub none_aliened : (at : Option ℕ) (place : Place) (frame : Descriptor) → aliened_at domains at place frame ≡ None
  none_aliened at place frame = none_aliened_by at place frame.head.parties (flown domains frame.domain frame.number)

-- ---- in a guarded fabric

none_if : (is_there : Bool) (o : Option Misrouting) → o ≡ None → cond is_there o None ≡ None
none_if true o none = none
none_if false o none = refl

or_none : (own other : Option AgentsView) → other ≡ None → or_else own other ≡ own
or_none None other none = none
or_none (Some agents) other none = refl

-- where each domain is of a guarded layout, no port misroutes a packet
module _ (w : World) (guarded : AreOfGuarded w.agents.domains) where
  none_misrouting_to : (misrouted : Misrouted) (t : Taken) → misrouting_to w misrouted t ≡ None
  none_misrouting_to misrouted t =
      none_if (is_at_port_of w.agents.domains t.frame.domain misrouted.place) (misrouting_with misrouted t (aliened w.agents.domains t.frame.domain misrouted.place t.frame))
      (ap (misrouting_with misrouted t) (none_aliened w.agents.domains guarded (place_of w.agents.domains t.frame.domain) misrouted.place t.frame))

  none_misrouting_taken : (misrouted : Misrouted) (o : Option Taken) → option_and_then (misrouting_to w misrouted) o ≡ None
  none_misrouting_taken misrouted None = refl
  none_misrouting_taken misrouted (Some t) = none_misrouting_to misrouted t

  none_misrouting_by : (class : Class) (o : Option Misrouted) → misrouting_by w class o ≡ None
  none_misrouting_by class None = refl
  none_misrouting_by class (Some misrouted) = none_misrouting_taken misrouted (taken_at w.channels class (Some misrouted.input))

  pub none_misrouting : (port : ℕ) (class : Class) → misrouting w port class ≡ None
  none_misrouting port class = none_misrouting_by class (misrouted_among w.tree w.routes w.channels w.ports port class)

module _ (w : World) (g : IsGuardedFabric w) where
  pub of_guarded : AreOfGuarded w.agents.domains
  of_guarded place d at = ap is_guarded (share_is g.platform w.agents.domains place d g.of_it.shares at) ∙ g.guarded.controls

  none_at_host : (frame : Descriptor) → alien_at_host w.routes.ports w.agents frame ≡ None
  none_at_host frame =
      let receiver = receiver_at_host w.routes.ports (owner_of_frame w.agents.domains) frame in
      ap (emitted_if w.agents (Host receiver)) (none_aliened w.agents.domains of_guarded (place_of w.agents.domains receiver) (Ingress to_host) frame)

  none_at_function : (function : ℕ) (frame : Descriptor) → alien_at_function w.agents function frame ≡ None
  none_at_function function frame =
      ap (emitted_if w.agents (Function function)) (none_aliened w.agents.domains of_guarded (place_of_function w.agents.domains function) (Ingress (to_function function)) frame)

  -- the host and a function take only what its home has a case for
  pub home_at_host : (frame : Descriptor) (received : Received) → agents_by_host w.routes.ports w.agents frame received ≡ own_by_host w.agents frame received
  home_at_host frame received = or_none (own_by_host w.agents frame received) (alien_at_host w.routes.ports w.agents frame) (none_at_host frame)

  pub home_at_function : (function : ℕ) (frame : Descriptor) (received : Received) → agents_by_function w.agents function frame received ≡ own_by_function w.agents function frame received
  home_at_function function frame received = or_none (own_by_function w.agents function frame received) (alien_at_function w.agents function frame) (none_at_function function frame)

  -- no port misroutes a packet
  pub passes_as_turned : (port : ℕ) (class : Class) → pass w port class ≡ turned w port class
  passes_as_turned port class = ap (passed_unless w port class) (none_misrouting w of_guarded port class)

-- ---- what is kept of any fabric

-- its domains know the ports of its layout
kept_of_guarded : (w : World) → IsConsistent w → is_guarded_world w ≡ true → AreOfGuarded w.agents.domains
kept_of_guarded w kept controls place d at = ap (list_all is_guarded_port) (share_at w.routes.ports w.agents.domains place d kept.shares at) ∙ controls

pub none_misrouted : (w : World) → IsConsistent w → is_guarded_world w ≡ true → (port : ℕ) (class : Class) → misrouting w port class ≡ None
none_misrouted w kept controls = none_misrouting w (kept_of_guarded w kept controls)
