-- A fabric is still where no event of its own stations has an effect: elsewhere nothing ever moves.
use Rattle.std.proofs.Common.{◌≡◌, ℕ, List, cond, Option, Some, None, refl, ap, ◌∙◌, arith}
use Rattle.std.specs.Prelude.{Contains, false, is_some, option_map}
use Rattle.std.specs.Option.{IsSome, option_and_then}
use Rattle.std.proofs.lemmas.List.Elements.{All-contains}
use Rattle.fab_types.specs.declared.class.Class.{Class}
use Rattle.fab_types.specs.declared.class.Class.TheVariants.{Posted, NonPosted, Completion}
use Rattle.fab_types.specs.declared.origin.Origin.{Origin}
use Rattle.fab_types.specs.declared.origin.Origin.TheVariants as origin
use Rattle.fab_types.specs.declared.place.Direction.{Direction}
use Rattle.frame_log.specs.Descriptor.{Descriptor}
use Rattle.domains.specs.Agents.{outbox_place, waiting_at}
use Rattle.lane.specs.Lanes.{eligible}
use Rattle.link.specs.Channels.{Channel, deliver, send, update_fc}
use Rattle.domains.specs.Domains.{place_of_function}
use Rattle.topology.specs.Links.{sender_of}
use Rattle.topology.specs.declared.nodes.LinkEnd.{LinkEnd}
use Rattle.interconnect.specs.Misrouted.{misrouted_among, misrouted_number}
use Rattle.interconnect.specs.declared.misrouted.Misrouted.{Misrouted}
use Rattle.interconnect.specs.Moves.{on_channel}
use Rattle.interconnect.specs.Passes.{index_of}
use Rattle.fabric_core.specs.declared.event.Event.{Event}
use Rattle.fabric_core.specs.declared.event.Event.TheVariants.{Arrive, Credit, Enter, Mmio, Pass, Root, Send, Submit, Take, Tick}
use Rattle.fabric_core.specs.declared.station.Station.{Station}
use Rattle.fabric_core.specs.declared.station.Station.TheVariants as station
use Rattle.fabric_core.specs.Events.{effect, enter, entered_at, is_begin, link_of}
use Rattle.fabric_core.specs.Misrouting.{misrouting_by, pass, passed_unless}
use Rattle.fabric_core.specs.Passing.{passed_number}
use Rattle.fabric_core.specs.Arrivals.{arrive, arrived, taken, to_function}
use Rattle.fabric_core.specs.Stations.{events_at, taking}
use Rattle.fabric_core.specs.Still.{HasStation, IsIdleAt, IsStill}
use Rattle.fabric_core.specs.World.{World, with_channels}

taking_at : (s : Station) (class : Class) → Contains (events_at s) (taking s class)
taking_at s Posted = (0, omega arith, refl)
taking_at s NonPosted = (1, omega arith, refl)
taking_at s Completion = (2, omega arith, refl)

module _ (w : World) (idle : (s : Station) → HasStation w s → IsIdleAt w s) where
  -- the event that takes a packet of a class at a station
  idle_taking : (s : Station) → HasStation w s → (class : Class) → effect w (taking s class) ≡ None
  idle_taking s has class = All-contains (λ (event : Event). effect w event ≡ None) (events_at s) (taking s class) (idle s has) (taking_at s class)

  -- ---- outboxes

  enters_none : (o : Origin) (class : Class) → IsSome (outbox_place w.agents.outboxes o) → enter w o class ≡ None
  enters_none (origin.Function function) class has = idle_taking (station.FunctionOutbox function) has class
  enters_none (origin.Host domain) class has = idle_taking (station.HostOutbox domain) has class

  still_enter : (o : Origin) (class : Class) (place : Option ℕ) → outbox_place w.agents.outboxes o ≡ place → enter w o class ≡ None
  still_enter o class None e =
      ap (λ (frames : List Descriptor). option_and_then (entered_at w o class (sender_of w.tree.links (link_of o))) (eligible class frames)) (ap (waiting_at w.agents.outboxes) e)
  still_enter o class (Some place) e = enters_none o class (ap is_some e)

  -- ---- ports

  still_pass : (port : ℕ) (class : Class) (number : Option ℕ) → index_of w.tree.places port ≡ number → pass w port class ≡ None
  still_pass port class None e =
      let none : misrouted_among w.tree w.routes w.channels w.ports port class ≡ None = ap (misrouted_number w.tree w.routes w.channels w.ports class) e in
      ap (λ (misrouted : Option Misrouted). passed_unless w port class (misrouting_by w class misrouted)) none ∙ ap (passed_number w class) e
  still_pass port class (Some number) e = idle_taking (station.Port port) (ap is_some e) class

  -- ---- directions

  at_link : (direction : Direction) (event : Event) → Contains (events_at (station.Link direction)) event → (end : LinkEnd) → sender_of w.tree.links direction ≡ Some end → effect w event ≡ None
  at_link direction event within end e =
      All-contains (λ (x : Event). effect w x ≡ None) (events_at (station.Link direction)) event (idle (station.Link direction) (ap is_some e)) within

  still_link : (direction : Direction) (event : Event) (step : Channel → Option Channel) → Contains (events_at (station.Link direction)) event
      → effect w event ≡ option_map (with_channels w) (on_channel w.channels (sender_of w.tree.links direction) step) → effect w event ≡ None
  still_link direction event step within is = go (sender_of w.tree.links direction) refl
    where
      go : (end : Option LinkEnd) → sender_of w.tree.links direction ≡ end → effect w event ≡ None
      go None e = is ∙ ap (λ (o : Option LinkEnd). option_map (with_channels w) (on_channel w.channels o step)) e
      go (Some end) e = at_link direction event within end e

  -- ---- functions

  still_arrive : (function : ℕ) (class : Class) (place : Option ℕ) → place_of_function w.agents.domains function ≡ place → arrive w function class ≡ None
  still_arrive function class None e = ap (λ (o : Option ℕ). cond (is_some o) (arrived w function (taken w (to_function function) class)) None) e
  still_arrive function class (Some place) e = idle_taking (station.Function function) (ap is_some e) class

  -- ---- each event

  still_event : (event : Event) → is_begin event ≡ false → effect w event ≡ None
  still_event (Submit function bytes) begins = absurd cc
  still_event (Tick function) begins = absurd cc
  still_event (Mmio domain access) begins = absurd cc
  still_event (Enter o class) begins = still_enter o class (outbox_place w.agents.outboxes o) refl
  still_event (Pass port class) begins = still_pass port class (index_of w.tree.places port) refl
  still_event (Send direction class) begins = still_link direction (Send direction class) (send class) (taking_at (station.Link direction) class) refl
  still_event (Take direction) begins = still_link direction (Take direction) deliver (3, omega arith, refl) refl
  still_event (Credit direction) begins = still_link direction (Credit direction) update_fc (4, omega arith, refl) refl
  still_event (Root class) begins = idle_taking station.Host tt class
  still_event (Arrive function class) begins = still_arrive function class (place_of_function w.agents.domains function) refl

  pub still_elsewhere : IsStill w
  still_elsewhere = record { idle = still_event }
