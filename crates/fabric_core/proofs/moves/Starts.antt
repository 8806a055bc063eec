-- At the start of a layout's fabric no moves are left: nothing waits or travels, and each sender has all that its receiver gave.
use Rattle.std.proofs.Common.{◌≡◌, ℕ, ◌+◌, List, [], ◌∷◌, ◌++◌, map, Option, refl, arith}
use Rattle.std.proofs.lemmas.List.Sums.{sum_by-cons}
use Rattle.fab_types.specs.Id.{id_of}
use Rattle.fab_types.specs.declared.place.Direction.{Direction}
use Rattle.credit.specs.declared.counters.Counters.{Counters}
use Rattle.platform.specs.declared.parts.DownstreamPort.{DownstreamPort}
use Rattle.platform.specs.declared.parts.Switch.{Switch}
use Rattle.layout.specs.Views.{credits_of}
use Rattle.platform.specs.Platform.{Platform}
use Rattle.platform.specs.Tree.{id_below, internal_bus}
use Rattle.domains.specs.Agents.{empty}
use Rattle.link.specs.Simplexes.{SimplexView, channel}
use Rattle.outboxes.specs.Outboxes.{BoxView, boxes_of}
use Rattle.topology.specs.declared.links.Link.{Link}
use Rattle.topology.specs.Links.{links_of}
use Rattle.topology.specs.Nodes.{ports_on}
use Rattle.interconnect.specs.Starts.{first_credits, function_outputs, nodes_of, host_outputs, switch_outputs}
use Rattle.interconnect.specs.Views.{channels_of, unused}
use Rattle.fabric_core.specs.MovesLeft.{box_moves, direction_from, link_moves, moves_left, moves_on, node_moves, output_moves, sum_from, waiting_moves}
use Rattle.fabric_core.specs.World.{world_of}
use Rattle.fabric_core.proofs.moves.Channels.{none_unreturned}

module _ (switches : List Switch) where
  none_on : (direction : Option Direction) (limits : Counters) → moves_on switches direction (channel (unused limits)) ≡ 0
  unfolding moves_on
  none_on direction limits = let unreturned_none = none_unreturned (channel (unused limits)) refl in omega (arith, unreturned_none)

  none_wait : (boxes : List BoxView) → waiting_moves switches (map empty boxes) ≡ 0
  unfolding waiting_moves
  none_wait [] = refl
  none_wait (box ∷ boxes) = let rest = none_wait boxes in omega (arith, rest, sum_by-cons (box_moves switches) (empty box) (map empty boxes))

  module _ (links : List Link) where
    abbrev IsLane : List SimplexView → Type 0
    IsLane lane = (node place : ℕ) → sum_from (output_moves switches links node) place (map channel lane) ≡ 0

    abbrev AreLanes : List (List SimplexView) → Type 0
    AreLanes lanes = (place : ℕ) → sum_from (node_moves switches links) place (channels_of lanes) ≡ 0

    lane_cons : (limits : Counters) (lane : List SimplexView) → IsLane lane → IsLane (unused limits ∷ lane)
    lane_cons limits lane rest node place = let one = none_on (direction_from links (record { node = node; output = place })) limits in let all = rest node (place + 1) in omega (arith, one, all)

    no_lane : IsLane []
    no_lane node place = refl

    lane_map : {A : Type 0} (limits : A → Counters) (xs : List A) → IsLane (map (λ (x : A). unused (limits x)) xs)
    lane_map limits [] = no_lane
    lane_map {A} limits (x ∷ xs) = lane_cons (limits x) (map (λ (x : A). unused (limits x)) xs) (lane_map limits xs)

    lanes_cons : (lane : List SimplexView) (lanes : List (List SimplexView)) → IsLane lane → AreLanes lanes → AreLanes (lane ∷ lanes)
    lanes_cons lane lanes first rest place = let one = first place 0 in let all = rest (place + 1) in omega (arith, one, all)

    lanes_before : {A : Type 0} (f : A → List SimplexView) (xs : List A) (lanes : List (List SimplexView)) → ((x : A) → IsLane (f x)) → AreLanes lanes → AreLanes (map f xs ++ lanes)
    lanes_before f [] lanes each rest = rest
    lanes_before f (x ∷ xs) lanes each rest = lanes_cons (f x) (map f xs ++ lanes) (each x) (lanes_before f xs lanes each rest)

    lanes_map : {A : Type 0} (f : A → List SimplexView) (xs : List A) → ((x : A) → IsLane (f x)) → AreLanes (map f xs)
    lanes_map f [] each = λ place. refl
    lanes_map f (x ∷ xs) each = lanes_cons (f x) (map f xs) (each x) (lanes_map f xs each)

    none_at_start : (platform : Platform) → AreLanes (nodes_of platform)
    none_at_start platform =
        lanes_cons (host_outputs platform) _ (lane_cons (first_credits (credits_of platform (id_of 1 0 0))) [] no_lane)
        (lanes_before (switch_outputs platform) platform.switches _
        (λ switch. lane_cons (first_credits (credits_of platform switch.id)) _ (lane_map (λ (port : DownstreamPort). first_credits (credits_of platform (id_below port))) (ports_on platform.ports (internal_bus switch))))
        (lanes_map (function_outputs platform) platform.functions (λ function. lane_cons (first_credits (credits_of platform function.id)) [] no_lane)))

    none_sent : (platform : Platform) → link_moves switches links (channels_of (nodes_of platform)) ≡ 0
    unfolding link_moves
    none_sent platform = none_at_start platform 0

pub none_left : (platform : Platform) → moves_left (world_of platform) ≡ 0
none_left platform =
    let links = none_sent platform.switches (links_of platform) platform in
    let boxes = none_wait platform.switches (boxes_of platform) in
    omega (arith, links, boxes)
