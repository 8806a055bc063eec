-- The turn of the port of an ID, in a fabric.
use Rattle.std.proofs.Common.{◌≡◌, ◌≢◌, ℕ, zero, suc, ◌<◌, true, List, [], ◌∷◌, ◌++◌, All, length, get_or, Option, Some, None, refl, sym, ap, ◌∙◌, subst, arith}
use Rattle.std.specs.List.{flat_map}
use Rattle.std.specs.Option.{IsSome, option_and_then}
use Rattle.std.specs.Prelude.{◌==◌}
use Rattle.std.proofs.lemmas.List.{get_or-map, length-map}
use Rattle.std.proofs.lemmas.List.Elements.{All-cons, All-get_or, All-head, All-nil, All-tail}
use Rattle.std.proofs.lemmas.List.Quantifiers.{position-Some}
use Rattle.fab_types.specs.declared.class.Class.{Class}
use Rattle.fab_types.specs.declared.outcome.Outcome.{Outcome}
use Rattle.fab_types.specs.declared.outcome.Outcome.TheVariants.{Moved, Idle, Refused, NoMemory}
use Rattle.fab_types.specs.declared.violation.Violation.{Violation}
use Rattle.frame_log.specs.Descriptor.{Descriptor}
use Rattle.ordering.proofs.Leaving.{taken_leaves}
use Rattle.domains.specs.Agents.{AgentsView}
use Rattle.link.specs.Channels.{Channel}
use Rattle.lane.specs.Lanes.{class_of, eligible}
use Rattle.port.specs.Turns.{PortView}
use Rattle.topology.specs.Topologies.{IsFromElsewhere, IsPlace}
use Rattle.topology.specs.declared.nodes.LinkEnd.{LinkEnd}
use Rattle.topology.specs.declared.places.PortPlace.{PortPlace}
use Rattle.interconnect.specs.Moves.{channel_at, no_channel}
use Rattle.interconnect.specs.Passes.{IsIdle, Passes, PassesFrom, index_of, no_place, no_port, place_number, port_at}
use Rattle.interconnect.specs.Views.{InterconnectView, channels}
use Rattle.fabric_core.specs.declared.event.Event.TheVariants.{Pass}
use Rattle.fabric_core.specs.Arrivals.{taken_at}
use Rattle.fabric_core.specs.Events.{StepsTo}
use Rattle.fabric_core.specs.Invariant.{IsFree, IsConsistent, IsPlaced}
use Rattle.fabric_core.specs.Misrouting.{Misrouting, misrouting, passed_unless}
use Rattle.fabric_core.specs.Passing.{passed, passed_at, passed_number, site_at, turned}
use Rattle.fabric_core.specs.Places.{IsFlown, frames_from, frames_of, frames_on}
use Rattle.fabric_core.specs.Wanting.{NumberWants, OfTaken, PlaceWants, TurnWants}
use Rattle.fabric_core.specs.World.{World, world_over}
use Rattle.fabric_core.proofs.effect.Courses.{course_within}
use Rattle.fabric_core.proofs.effect.Over.{over_parts}
use Rattle.fabric_core.proofs.invariant.Renewing.{flown_of}
use Rattle.fabric_core.proofs.effect.Turns.{HasOutputs, refuses, turns, unknown, wants}

-- ---- all packets of a fabric, and those that wait at a receiver

module _ {X : Type 0} (P : X → Type 0) where
  all_left : (xs ys : List X) → All P (xs ++ ys) → All P xs
  all_left [] ys h = All-nil P
  all_left (x ∷ xs) ys h = All-cons P x xs (All-head P x (xs ++ ys) h) (all_left xs ys (All-tail P x (xs ++ ys) h))

  all_right : (xs ys : List X) → All P (xs ++ ys) → All P ys
  all_right [] ys h = h
  all_right (x ∷ xs) ys h = all_right xs ys (All-tail P x (xs ++ ys) h)

module _ (P : Descriptor → Type 0) where
  in_row : (row : List Channel) (output : ℕ) → All P (frames_from row) → All P (get_or row output no_channel).ingress
  in_row [] output h = All-nil P
  in_row (c ∷ row) zero h = all_right P c.wire c.ingress (all_right P c.egress (c.wire ++ c.ingress) (all_left P (frames_on c) (frames_from row) h))
  in_row (c ∷ row) (suc output) h = in_row row output (all_right P (frames_on c) (frames_from row) h)

  in_rows : (cs : List (List Channel)) (n output : ℕ) → All P (flat_map frames_from cs) → All P (get_or (get_or cs n []) output no_channel).ingress
  in_rows [] n output h = All-nil P
  in_rows (row ∷ cs) zero output h = in_row row output (all_left P (frames_from row) (flat_map frames_from cs) h)
  in_rows (row ∷ cs) (suc n) output h = in_rows cs n output (all_right P (frames_from row) (flat_map frames_from cs) h)

  taken_has : (class : Class) (waiting left : List Descriptor) (frame : Descriptor) → All P waiting → eligible class waiting ≡ Some (frame, left) → P frame
  taken_has class waiting left frame h found =
      let l = taken_leaves class_of class waiting frame left found in
      All-head P frame l.newer (all_right P l.older (frame ∷ l.newer) (subst (All P) l.queue h))

pub flown_at : (w : World) (class : Class) (input : LinkEnd) (frame : Descriptor) (left : List Descriptor) → All (IsFlown w.agents.domains) (frames_of w) → eligible class (channel_at w.channels input).ingress ≡ Some (frame, left)
    → IsFlown w.agents.domains frame
flown_at w class input frame left all found =
    taken_has (IsFlown w.agents.domains) class (channel_at w.channels input).ingress left frame
    (in_rows (IsFlown w.agents.domains) w.channels input.node input.output (all_left (IsFlown w.agents.domains) (flat_map frames_from w.channels) _ all)) found

-- ---- by the port's place

-- what a world becomes by an outcome that refuses no begin
abbrev pub Gives : Option World → Type 0 → World → World → Outcome → Type 0
Gives all wants old new Moved = all ≡ Some new
Gives all wants old new Idle = (all ≡ None) × (new ≡ old)
Gives all wants old new (Refused fault) = ⊥
Gives all wants old new NoMemory = IsSome all × wants × (new ≡ old)

module _ (h new : InterconnectView) (agents agents' : AgentsView) (violations violations' : List Violation) (strays : List Descriptor) (class : Class) (outcome : Outcome) (kept : IsConsistent (world_over h agents violations strays)) where
  abbrev here : World
  here = world_over h agents violations strays

  abbrev there : World
  there = world_over new agents' violations' strays

  abbrev Passed : Option ℕ → Type 0
  Passed o = Passes refuses unknown wants true class outcome agents agents' violations violations' h new o

  idle : (all : Option World) (P : Type 0) → all ≡ None → IsIdle refuses unknown wants true class outcome agents agents' violations violations' h new → Gives all P here there outcome
  idle all P none i = subst (Gives all P here there) (sym i.idle) (none, over_parts h new (channels h) h.ports agents agents' violations violations' strays i.rest.tree i.rest.routes i.same i.rest.ports i.known_same i.reported_same)

  module _ (i : ℕ) (within : i < length h.tree.places) where
    abbrev place : PortPlace
    place = get_or h.tree.places i no_place

    abbrev port : PortView
    port = port_at h i

    is_place : IsPlace h.tree.outputs place
    is_place = All-get_or (IsPlace h.tree.outputs) h.tree.places i no_place within kept.built.sound.places

    within_ports : i < length h.ports
    within_ports = let many = kept.built.many in omega (arith, many)

    placed : IsPlaced h.tree.outputs place port
    placed = kept.built.placed i no_place no_port within_ports

    free : IsFree port
    free = All-get_or IsFree h.ports i no_port within_ports kept.free

    outputs : HasOutputs (channels h) place.node port.config
    outputs =
        let long : length (channels h) ≡ length h.tree.outputs = sym (length-map (channels h) (length {A = Channel})) ∙ ap length kept.built.outputs in
        let there_is : place.node < length (channels h) = (let node = is_place.node in omega arith) in
        let many : length (get_or (channels h) place.node []) ≡ get_or h.tree.outputs place.node 0 = sym (get_or-map (length {A = Channel}) (channels h) place.node [] 0 there_is) ∙ ap (λ (ls : List ℕ). get_or ls place.node 0) kept.built.outputs in
        record { ways = many ∙ placed.fits.ways; own = placed.own }

    by_turn : (input : LinkEnd) → PassesFrom refuses unknown wants true class outcome agents agents' violations violations' h new i place.node (Some input) → input.node ≢ place.node → (o : Outcome) → outcome ≡ o
        → Gives (option_and_then (passed here (site_at here i place) class) (taken_at (channels h) class (Some input))) (OfTaken (TurnWants here (site_at here i place)) (taken_at (channels h) class (Some input))) here there o
    by_turn input t apart o is =
        turns h new agents agents' violations violations' strays class outcome i place.node input t free.held free.kept apart outputs (λ head. course_within h.routes port.config head) (λ frame left found. flown_at here class input frame left (flown_of here kept) found) o is

    by_input : (o : Option LinkEnd) → o ≡ place.input → PassesFrom refuses unknown wants true class outcome agents agents' violations violations' h new i place.node o → Gives (passed_at here class i place) (PlaceWants here class i place) here there outcome
    by_input None is passes = idle (passed_at here class i place) (PlaceWants here class i place) (ap (λ (o : Option LinkEnd). option_and_then (passed here (site_at here i place) class) (taken_at (channels h) class o)) (sym is)) passes
    by_input (Some input) is passes =
        let elsewhere : IsFromElsewhere h.tree.outputs place.node (Some input) = subst (IsFromElsewhere h.tree.outputs place.node) (sym is) is_place.input in
        subst (λ (o : Option LinkEnd). Gives (option_and_then (passed here (site_at here i place) class) (taken_at (channels h) class o)) (OfTaken (TurnWants here (site_at here i place)) (taken_at (channels h) class o)) here there outcome) is
        (by_turn input passes elsewhere.1 outcome refl)

  by_index : (id : ℕ) (o : Option ℕ) → o ≡ index_of h.tree.places id → Passed o → Gives (passed_number here class o) (NumberWants here class o) here there outcome
  by_index id None is passes = idle None ⊥ refl passes
  by_index id (Some i) is passes =
      let found = position-Some (λ (place : PortPlace). place.id == id) h.tree.places i no_place (sym is) in
      by_input i found.0 (place_number h i).input refl passes

  -- the turn of a port is what its event does, where the port is about to misroute nothing
  step_of : (id : ℕ) (o : Outcome) → misrouting here id class ≡ None → Gives (turned here id class) (NumberWants here class (index_of h.tree.places id)) here there o → StepsTo here (Pass id class) o there
  step_of id Moved nothing g = ap (passed_unless here id class) nothing ∙ g
  step_of id Idle nothing g = (ap (passed_unless here id class) nothing ∙ g.0, refl, g.1)
  step_of id (Refused fault) nothing g = absurd g
  step_of id NoMemory nothing g = (subst (λ (l : Option Misrouting). IsSome (passed_unless here id class l)) (sym nothing) g.0, g.1, g.2)

  pub pass_step : (id : ℕ) → misrouting here id class ≡ None → Passed (index_of h.tree.places id) → StepsTo here (Pass id class) outcome there
  pass_step id nothing passes = step_of id outcome nothing (by_index id (index_of h.tree.places id) refl passes)
