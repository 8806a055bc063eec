-- The directions of a layout's links are bounded at their start.
use Rattle.std.proofs.Common.{◌≡◌, ℕ, true, zero, suc, List, [], ◌∷◌, ◌++◌, get_or, map, Option, Some, None, refl, subst, sym, arith}
use Rattle.std.specs.List.{list_all}
use Rattle.credit.specs.Kinds.{Class, Kind}
use Rattle.credit.specs.Limits.{MayStart, zero_counters}
use Rattle.credit.specs.declared.counters.Counters.{Counters}
use Rattle.fab_types.specs.Id.{id_of}
use Rattle.platform.specs.declared.parts.CreditLimits.{CreditLimits}
use Rattle.platform.specs.declared.parts.DownstreamPort.{DownstreamPort}
use Rattle.platform.specs.Platform.{Platform}
use Rattle.platform.specs.Tree.{id_below, internal_bus}
use Rattle.layout.specs.Laws.{IsPlatform, is_good_credit}
use Rattle.layout.specs.Views.{credits_of}
use Rattle.link.specs.Channels.{Channel, IsBounded}
use Rattle.link.specs.Simplexes.{SimplexView, channel}
use Rattle.topology.specs.Nodes.{ports_on}
use Rattle.interconnect.proofs.Starting.{few, few_may_start}
use Rattle.interconnect.specs.Moves.{no_channel}
use Rattle.interconnect.specs.Starts.{first_credits, function_outputs, nodes_of, host_outputs, start_of, switch_outputs, unused_below}
use Rattle.interconnect.specs.Views.{InterconnectView, channels, channels_of, unused}
use Rattle.fabric_core.specs.Credits.{AreBounded}
use Rattle.fabric_core.proofs.bounded.Steps.{bounded_by}

zero_may : MayStart zero_counters
zero_may (Kind.Headers Class.Posted) = omega arith
zero_may (Kind.Headers Class.NonPosted) = omega arith
zero_may (Kind.Headers Class.Completion) = omega arith
zero_may (Kind.Data Class.Posted) = omega arith
zero_may (Kind.Data Class.NonPosted) = omega arith
zero_may (Kind.Data Class.Completion) = omega arith

-- of what nothing travels or waits on
unused_bounded : (limits : Counters) → MayStart limits → IsBounded (channel (unused limits))
unused_bounded limits may = bounded_by (channel (unused limits)) may (λ k. omega arith)

none_bounded : IsBounded no_channel
none_bounded = bounded_by no_channel zero_may (λ k. omega arith)

-- ---- the credits of a layout

credits_may : (platform : Platform) (lower : ℕ) (o : Option CreditLimits) → list_all is_good_credit platform.credits ≡ true → o ≡ credits_of platform lower → MayStart (first_credits o)
credits_may platform lower None good e = zero_may
credits_may platform lower (Some limits) good e = few_may_start limits (few platform lower limits good e)

-- ---- lists of directions

-- each direction out of a node, and out of each node
abbrev IsLane : List SimplexView → Type 0
IsLane lane = (o : ℕ) → IsBounded (get_or (map channel lane) o no_channel)

abbrev AreLanes : List (List SimplexView) → Type 0
AreLanes lanes = (n : ℕ) → IsLane (get_or lanes n [])

no_lane : IsLane []
no_lane o = none_bounded

lane_cons : (s : SimplexView) (lane : List SimplexView) → IsBounded (channel s) → IsLane lane → IsLane (s ∷ lane)
lane_cons s lane first rest zero = first
lane_cons s lane first rest (suc o) = rest o

lane_map : {A : Type 0} (f : A → SimplexView) (xs : List A) → ((x : A) → IsBounded (channel (f x))) → IsLane (map f xs)
lane_map f [] each = no_lane
lane_map f (x ∷ xs) each = lane_cons (f x) (map f xs) (each x) (lane_map f xs each)

lanes_cons : (lane : List SimplexView) (lanes : List (List SimplexView)) → IsLane lane → AreLanes lanes → AreLanes (lane ∷ lanes)
lanes_cons lane lanes first rest zero = first
lanes_cons lane lanes first rest (suc n) = rest n

lanes_before : {A : Type 0} (f : A → List SimplexView) (xs : List A) (lanes : List (List SimplexView)) → ((x : A) → IsLane (f x)) → AreLanes lanes → AreLanes (map f xs ++ lanes)
lanes_before f [] lanes each rest = rest
lanes_before f (x ∷ xs) lanes each rest = lanes_cons (f x) (map f xs ++ lanes) (each x) (lanes_before f xs lanes each rest)

lanes_map : {A : Type 0} (f : A → List SimplexView) (xs : List A) → ((x : A) → IsLane (f x)) → AreLanes (map f xs)
lanes_map f [] each = λ n. no_lane
lanes_map f (x ∷ xs) each = lanes_cons (f x) (map f xs) (each x) (lanes_map f xs each)

-- the channels of a node are those of its directions
node_is : (lanes : List (List SimplexView)) (n : ℕ) → get_or (channels_of lanes) n [] ≡ map channel (get_or lanes n [])
node_is [] n = refl
node_is (lane ∷ lanes) zero = refl
node_is (lane ∷ lanes) (suc n) = node_is lanes n

bounded_lanes : (lanes : List (List SimplexView)) → AreLanes lanes → AreBounded (channels_of lanes)
bounded_lanes lanes all = λ end. subst (λ (cs : List Channel). IsBounded (get_or cs end.output no_channel)) (sym (node_is lanes end.node)) (all end.node end.output)

pub bounded_at_start : (platform : Platform) → IsPlatform platform → AreBounded (channels_of (nodes_of platform))
bounded_at_start platform laws =
    let below : (lower : ℕ) → IsBounded (channel (unused_below platform lower)) = λ lower. unused_bounded (first_credits (credits_of platform lower)) (credits_may platform lower (credits_of platform lower) laws.limits.credits refl) in
    bounded_lanes (nodes_of platform)
    (lanes_cons (host_outputs platform) _ (lane_cons (unused_below platform (id_of 1 0 0)) [] (below (id_of 1 0 0)) no_lane)
    (lanes_before (switch_outputs platform) platform.switches _
    (λ switch. lane_cons (unused_below platform switch.id) _ (below switch.id) (lane_map (λ (port : DownstreamPort). unused_below platform (id_below port)) (ports_on platform.ports (internal_bus switch)) (λ port. below (id_below port))))
    (lanes_map (function_outputs platform) platform.functions (λ function. lane_cons (unused_below platform function.id) [] (below function.id) no_lane))))

-- the same of the parts of a new fabric
pub bounded_new : (platform : Platform) (h : InterconnectView) → IsPlatform platform → h ≡ start_of platform → AreBounded (channels h)
bounded_new platform h laws is = subst (λ (x : InterconnectView). AreBounded (channels x)) (sym is) (bounded_at_start platform laws)
