-- What a fabric keeps, of a world with other parts.
use Rattle.std.proofs.Common.{◌≡◌, ℕ, ◌<◌, List, [], ◌∷◌, length, map, get_or, Option, Some, None, refl, ◌∙◌, subst}
use Rattle.std.specs.Prelude.{All, option_map}
use Rattle.std.specs.List.{flat_map}
use Rattle.std.proofs.lemmas.List.Elements.{All-head}
use Rattle.fab_types.specs.declared.place.Direction.{Direction}
use Rattle.fab_types.specs.declared.violation.Violation.{Violation}
use Rattle.frame_log.specs.Descriptor.{Descriptor}
use Rattle.domains.specs.Agents.{AgentsView, IsSettled}
use Rattle.interconnect.specs.Moves.{channel_at, with_ingress}
use Rattle.interconnect.proofs.Keeping.{sender_is_end}
use Rattle.link.specs.Channels.{Channel}
use Rattle.lane.specs.Lanes.{Class, eligible}
use Rattle.port.specs.Turns.{PortView}
use Rattle.topology.specs.Links.{sender_of}
use Rattle.topology.specs.Topologies.{IsEnd}
use Rattle.topology.specs.declared.nodes.LinkEnd.{LinkEnd}
use Rattle.fabric_core.specs.Arrivals.{Taken, taken_at, taken_from}
use Rattle.fabric_core.specs.Invariant.{HasPorts, IsFree, IsConsistent, IsPlaced}
use Rattle.fabric_core.specs.Places.{IsFlown, frames_from, frames_of}
use Rattle.fabric_core.specs.World.{World, is_guarded}
use Rattle.fabric_core.proofs.invariant.Changing.{Changed, all_front}
use Rattle.fabric_core.proofs.invariant.Placing.{PlacedOrLost}
use Rattle.fabric_core.proofs.invariant.Standing.{IsThere, end_there, held, on_links, same_lanes, taken_there}

abbrev some : {A : Type 0} → A → Option A
some x = Some x

some_is : {A : Type 0} (x y : A) → some x ≡ some y → x ≡ y
some_is x y e = cc

abbrev pub renewed : World → List (List Channel) → List PortView → AgentsView → List Violation → List Descriptor → World
renewed w channels ports agents violations strays = record { tree = w.tree; routes = w.routes; channels = channels; ports = ports; agents = agents; violations = violations; strays = strays }

pub placed_of : (w : World) → IsConsistent w → PlacedOrLost (is_guarded w) w.agents.domains (frames_of w)
placed_of w kept = record { lost = kept.placed.lost; placed = record { once = kept.placed.once; all_flown = kept.placed.flown }; whole = kept.placed.whole }

-- all that stands anywhere is in flight
pub flown_of : (w : World) → IsConsistent w → All (IsFlown w.agents.domains) (frames_of w)
flown_of w kept = all_front (IsFlown w.agents.domains) (frames_of w) kept.placed.lost kept.placed.flown

-- as many outputs of each node
abbrev pub SameOutputs : List (List Channel) → List (List Channel) → Type 0
SameOutputs old new = map (length {A = Channel}) new ≡ map (length {A = Channel}) old

pub kept_with : (w : World) (channels : List (List Channel)) (agents : AgentsView) (violations : List Violation) (strays : List Descriptor) → IsConsistent w → SameOutputs w.channels channels → IsSettled agents
    → All (HasPorts w.routes.ports) agents.domains → PlacedOrLost (is_guarded w) agents.domains (held channels agents.outboxes w.ports strays) → IsConsistent (renewed w channels w.ports agents violations strays)
kept_with w channels agents violations strays kept outputs settled shares placed = record {
  built = record { sound = kept.built.sound; outputs = outputs ∙ kept.built.outputs; many = kept.built.many; placed = kept.built.placed };
  settled = settled;
  shares = shares;
  placed = record { lost = placed.lost; once = placed.placed.once; flown = placed.placed.all_flown; whole = placed.whole };
  free = kept.free;
}

-- the same with other ports
pub kept_with_ports : (w : World) (channels : List (List Channel)) (ports : List PortView) (agents : AgentsView) (violations : List Violation) (strays : List Descriptor) → IsConsistent w → SameOutputs w.channels channels → IsSettled agents
    → length ports ≡ length w.ports
    → ((i : ℕ) (place : _) (port : PortView) → i < length ports → IsPlaced w.tree.outputs (get_or w.tree.places i place) (get_or ports i port)) → All IsFree ports
    → All (HasPorts w.routes.ports) agents.domains → PlacedOrLost (is_guarded w) agents.domains (held channels agents.outboxes ports strays) → IsConsistent (renewed w channels ports agents violations strays)
kept_with_ports w channels ports agents violations strays kept outputs settled many fit free shares placed = record {
  built = record { sound = kept.built.sound; outputs = outputs ∙ kept.built.outputs; many = many ∙ kept.built.many; placed = fit };
  settled = settled;
  shares = shares;
  placed = record { lost = placed.lost; once = placed.placed.once; flown = placed.placed.all_flown; whole = placed.whole };
  free = free;
}

-- ---- ends

-- an end of the tree, also where what waits at some has changed
pub there_in : (w : World) (channels : List (List Channel)) (end : LinkEnd) → IsConsistent w → SameOutputs w.channels channels → IsEnd w.tree.outputs end → IsThere channels end
there_in w channels end kept same is = end_there channels w.tree.outputs end (same ∙ kept.built.outputs) is

pub sender_there : (w : World) (channels : List (List Channel)) (direction : Direction) (end : LinkEnd) → IsConsistent w → SameOutputs w.channels channels → sender_of w.tree.links direction ≡ Some end → IsThere channels end
sender_there w channels direction end kept same is = there_in w channels end kept same (sender_is_end w.tree direction end kept.built.sound is)

-- ---- what is taken

-- one packet was taken from a direction
pub record TakenOut (w : World) (t : Taken) : Type 1 where
  pub outputs : SameOutputs w.channels t.channels
  pub changed : Changed (flat_map frames_from w.channels) (flat_map frames_from t.channels) (t.frame ∷ []) []

taken_if : (w : World) (class : Class) (end : LinkEnd) (found : Option (Descriptor × List Descriptor)) (t : Taken) → IsThere w.channels end → eligible class (channel_at w.channels end).ingress ≡ found
    → option_map (taken_from w.channels end) found ≡ Some t → TakenOut w t
taken_if w class end None t there e is = absurd cc
taken_if w class end (Some r) t there e is =
    subst (TakenOut w) (some_is (taken_from w.channels end r) t is) (record {
      outputs = same_lanes w.channels end (with_ingress (channel_at w.channels end) r.1);
      changed = taken_there w.channels end class r.0 r.1 there e;
    })

pub taken_out_of : (w : World) (class : Class) (found : Option LinkEnd) (t : Taken) → ((end : LinkEnd) → found ≡ Some end → IsThere w.channels end) → taken_at w.channels class found ≡ Some t → TakenOut w t
taken_out_of w class None t there is = absurd cc
taken_out_of w class (Some end) t there is = taken_if w class end (eligible class (channel_at w.channels end).ingress) t (there end refl) refl is

-- what was taken is in flight
pub taken_flown : (w : World) (t : Taken) → IsConsistent w → TakenOut w t → IsFlown w.agents.domains t.frame
taken_flown w t kept out =
    let c = on_links w.channels t.channels w.agents.outboxes w.ports w.strays (t.frame ∷ []) [] out.changed in
    All-head (IsFlown w.agents.domains) t.frame [] (c.found (IsFlown w.agents.domains) (flown_of w kept))
