-- The workers at the ends of the tree's links are those of the routes up.
use Rattle.std.proofs.Common.{◌≡◌, ℕ, suc, ◌+◌, ◌<◌, ◌==◌, Bool, List, [], ◌∷◌, ◌++◌, length, map, get_or, option_map, Option, Some, None, refl, sym, ap, ◌∙◌, arith, eqb-true, eq-eqb}
use Rattle.std.specs.Prelude.{slice_get, Contains, option_and_then}
use Rattle.std.specs.List.{position, position_or_len}
use Rattle.std.proofs.lemmas.List.{get_or-append-add, get_or-map, get_or_append_left, length-append, length-map, map-append}
use Rattle.std.proofs.lemmas.List.Elements.{Contains-get_or}
use Rattle.std.proofs.lemmas.List.Quantifiers.{position-Some}
use Rattle.std.proofs.lemmas.Option.{slice_get-get_or, slice_get-map}
use Rattle.fab_types.specs.Id.{bus_of}
use Rattle.layout.specs.Laws.{IsPlatform, is_no_switch}
use Rattle.platform.specs.declared.parts.DownstreamPort.{DownstreamPort}
use Rattle.platform.specs.declared.parts.EndpointFunction.{EndpointFunction}
use Rattle.platform.specs.declared.parts.Switch.{Switch}
use Rattle.platform.specs.Platform.{Platform}
use Rattle.platform.specs.Tree.{id_below, is_switch, port_above, port_leading_to}
use Rattle.thread_crew.specs.declared.worker_id.WorkerId.{WorkerId}
use Rattle.thread_crew.specs.declared.worker_id.WorkerId.TheVariants.{Function, Port}
use Rattle.topology.specs.Links.{end_above, link_of_function, link_of_switch, links_of}
use Rattle.topology.specs.Nodes.{downstream_end, function_end, ports_on, upstream_end, upstream_end_at}
use Rattle.topology.proofs.Ends.{no_function, no_switch}
use Rattle.topology.proofs.Members.{found, here, later, listed, passes, some_passes}
use Rattle.topology.proofs.OwnEnds.{IsOutputDown, output_down}
use Rattle.thread_plan.specs.declared.route.Route.{Route}
use Rattle.thread_plan.specs.Nodes.{alone, worker_at}
use Rattle.thread_plan.specs.Routes.{lanes_of, up_from_function, up_from_switch, up_routes, worker_above}
use Rattle.thread_plan.specs.Workers.{downstream_worker, function_worker, upstream_worker}
use Rattle.thread_plan.proofs.Parts.{both_tests}
use Rattle.thread_plan.proofs.Routed.{over_switch}

-- two ways through two maps
through : {A B C D : Type 0} (f : B → D) (g : A → B) (h : C → D) (k : A → C) (xs : List A) → ((x : A) → Contains xs x → f (g x) ≡ h (k x)) → map f (map g xs) ≡ map h (map k xs)
through f g h k [] each = refl
through {A} {B} {C} {D} f g h k (x ∷ xs) each =
    ap (λ (y : D). y ∷ map f (map g xs)) (each x (here x xs)) ∙ ap (λ (ys : List D). h (k x) ∷ ys) (through f g h k xs (λ y within. each y (later x y xs within)))

joined : {D : Type 0} (xs ys zs ws : List D) → xs ≡ zs → ys ≡ ws → xs ++ ys ≡ zs ++ ws
joined {D} xs ys zs ws one other = ap (λ (l : List D). l ++ ys) one ∙ ap (λ (l : List D). zs ++ l) other

-- ---- nodes

abbrev at_switches : Platform → List (List WorkerId)
at_switches platform = map (lanes_of platform) platform.switches

abbrev at_functions : Platform → List (List WorkerId)
at_functions platform = map alone platform.functions

many_nodes : (platform : Platform) → length (at_switches platform ++ at_functions platform) ≡ length platform.switches + length platform.functions
many_nodes platform =
    let both = length-append (at_switches platform) (at_functions platform) in
    let switches : length (at_switches platform) ≡ length platform.switches = length-map platform.switches (lanes_of platform) in
    let functions : length (at_functions platform) ≡ length platform.functions = length-map platform.functions alone in
    omega arith

at_switch : (platform : Platform) (place output : ℕ) → place < length platform.switches → worker_at platform (record { node = 1 + place; output = output }) ≡ slice_get (lanes_of platform (get_or platform.switches place no_switch)) output
at_switch platform place output within =
    let switches : length (at_switches platform) ≡ length platform.switches = length-map platform.switches (lanes_of platform) in
    let many = many_nodes platform in
    let one : 1 + place ≡ suc place = omega arith in
    ap (λ (n : ℕ). worker_at platform (record { node = n; output = output })) one
    ∙ ap (option_and_then (λ (outputs : List WorkerId). slice_get outputs output)) (slice_get-get_or (at_switches platform ++ at_functions platform) place [] (omega arith))
    ∙ ap (λ (outputs : List WorkerId). slice_get outputs output)
    (get_or_append_left (at_switches platform) (at_functions platform) [] place (omega arith) ∙ get_or-map (lanes_of platform) platform.switches place no_switch [] within)

at_function : (platform : Platform) (place : ℕ) → place < length platform.functions → worker_at platform (record { node = 1 + length platform.switches + place; output = 0 }) ≡ Some (function_worker (get_or platform.functions place no_function))
at_function platform place within =
    let switches : length (at_switches platform) ≡ length platform.switches = length-map platform.switches (lanes_of platform) in
    let many = many_nodes platform in
    let one : 1 + length platform.switches + place ≡ suc (length (at_switches platform) + place) = omega arith in
    ap (λ (n : ℕ). worker_at platform (record { node = n; output = 0 })) one
    ∙ ap (option_and_then (λ (outputs : List WorkerId). slice_get outputs 0)) (slice_get-get_or (at_switches platform ++ at_functions platform) (length (at_switches platform) + place) [] (omega arith))
    ∙ ap (λ (outputs : List WorkerId). slice_get outputs 0)
    (get_or-append-add (at_switches platform) (at_functions platform) place [] ∙ get_or-map alone platform.functions place no_function [] within)

-- ---- up

switch_up : (platform : Platform) (switch : Switch) → Contains platform.switches switch → worker_at platform (upstream_end platform switch.id) ≡ Some (upstream_worker switch)
switch_up platform switch within =
    let p : Switch → Bool = λ line. line.id == switch.id in
    let place : ℕ = position_or_len p platform.switches in
    let found : position p platform.switches ≡ Some place = listed p platform.switches within.0 switch within.1 (ap p within.2 ∙ eq-eqb switch.id switch.id refl) in
    let facts = position-Some p platform.switches place no_switch found in
    ap (λ (o : Option ℕ). worker_at platform (upstream_end_at platform switch.id o)) found
    ∙ at_switch platform place 0 facts.0
    ∙ ap (λ (n : ℕ). Some (Port n)) (eqb-true _ _ facts.1)

no_switch_there : (platform : Platform) → IsPlatform platform → (function : EndpointFunction) → Contains platform.functions function → position (λ switch. switch.id == function.id) platform.switches ≡ None
no_switch_there platform laws function within = go (position (λ switch. switch.id == function.id) platform.switches) refl
  where
    go : (place : Option ℕ) → position (λ switch. switch.id == function.id) platform.switches ≡ place → place ≡ None
    go None e = refl
    go (Some place) e =
        let facts = position-Some (λ switch. switch.id == function.id) platform.switches place no_switch e in
        absurd (both_tests (is_switch platform.switches function.id)
        (some_passes (λ switch. switch.id == function.id) platform.switches (get_or platform.switches place no_switch) (Contains-get_or platform.switches place no_switch facts.0) facts.1)
        (passes (is_no_switch platform.switches) platform.functions function laws.free within))

function_up : (platform : Platform) → IsPlatform platform → (function : EndpointFunction) → Contains platform.functions function → worker_at platform (upstream_end platform function.id) ≡ Some (function_worker function)
function_up platform laws function within =
    let p : EndpointFunction → Bool = λ line. line.id == function.id in
    let place : ℕ = position_or_len p platform.functions in
    let found : position p platform.functions ≡ Some place = listed p platform.functions within.0 function within.1 (ap p within.2 ∙ eq-eqb function.id function.id refl) in
    let facts = position-Some p platform.functions place no_function found in
    ap (λ (o : Option ℕ). worker_at platform (upstream_end_at platform function.id o)) (no_switch_there platform laws function within)
    ∙ ap (λ (o : Option ℕ). worker_at platform (function_end (length platform.switches) o)) found
    ∙ at_function platform place facts.0
    ∙ ap (λ (n : ℕ). Some (Function n)) (eqb-true _ _ facts.1)

-- ---- down

port_down : (platform : Platform) → IsPlatform platform → (port : DownstreamPort) → Contains platform.ports port → worker_at platform (downstream_end platform port) ≡ Some (downstream_worker port)
port_down platform laws port within = go (output_down platform laws port within)
  where
    go : (place : ℕ) × (output : ℕ) × IsOutputDown platform port place output → worker_at platform (downstream_end platform port) ≡ Some (downstream_worker port)
    go (place, output, is) =
        let facts = position-Some (λ other. other.id == port.id) (ports_on platform.ports (bus_of port.id)) output port is.at in
        ap (worker_at platform) is.end
        ∙ at_switch platform place (suc output) is.within
        ∙ ap (λ (bus : ℕ). slice_get (map downstream_worker (ports_on platform.ports bus)) output) is.bus
        ∙ slice_get-map downstream_worker (ports_on platform.ports (bus_of port.id)) output
        ∙ ap (option_map downstream_worker) (slice_get-get_or (ports_on platform.ports (bus_of port.id)) output port facts.0)
        ∙ ap (λ (n : ℕ). Some (Port n)) (eqb-true _ _ facts.1)

above_down : (platform : Platform) → IsPlatform platform → (port : Option DownstreamPort) → ((p : DownstreamPort) → port ≡ Some p → Contains platform.ports p) → worker_at platform (end_above platform port) ≡ Some (worker_above port)
above_down platform laws None within = refl
above_down platform laws (Some port) within = port_down platform laws port (within port refl)

-- ---- all links

pub lower_workers : (platform : Platform) → IsPlatform platform → map (λ link. worker_at platform link.below) (links_of platform) ≡ map (λ r. Some r.from) (up_routes platform)
lower_workers platform laws =
    map-append (λ link. worker_at platform link.below) (map (link_of_switch platform) platform.switches) (map (link_of_function platform) platform.functions)
    ∙ joined (map (λ link. worker_at platform link.below) (map (link_of_switch platform) platform.switches)) (map (λ link. worker_at platform link.below) (map (link_of_function platform) platform.functions))
    (map (λ (r : Route). Some r.from) (map (up_from_switch platform) platform.switches)) (map (λ (r : Route). Some r.from) (map (up_from_function platform) platform.functions))
    (through (λ link. worker_at platform link.below) (link_of_switch platform) (λ (r : Route). Some r.from) (up_from_switch platform) platform.switches (switch_up platform))
    (through (λ link. worker_at platform link.below) (link_of_function platform) (λ (r : Route). Some r.from) (up_from_function platform) platform.functions (function_up platform laws))
    ∙ sym (map-append (λ (r : Route). Some r.from) (map (up_from_switch platform) platform.switches) (map (up_from_function platform) platform.functions))

pub upper_workers : (platform : Platform) → IsPlatform platform → map (λ link. worker_at platform link.above) (links_of platform) ≡ map (λ r. Some r.to) (up_routes platform)
upper_workers platform laws =
    map-append (λ link. worker_at platform link.above) (map (link_of_switch platform) platform.switches) (map (link_of_function platform) platform.functions)
    ∙ joined (map (λ link. worker_at platform link.above) (map (link_of_switch platform) platform.switches)) (map (λ link. worker_at platform link.above) (map (link_of_function platform) platform.functions))
    (map (λ (r : Route). Some r.to) (map (up_from_switch platform) platform.switches)) (map (λ (r : Route). Some r.to) (map (up_from_function platform) platform.functions))
    (through (λ link. worker_at platform link.above) (link_of_switch platform) (λ (r : Route). Some r.to) (up_from_switch platform) platform.switches
    (λ switch within. above_down platform laws (port_above platform.ports switch) (λ p e. over_switch platform switch.above p e)))
    (through (λ link. worker_at platform link.above) (link_of_function platform) (λ (r : Route). Some r.to) (up_from_function platform) platform.functions
    (λ function within. above_down platform laws (port_leading_to platform.ports function.id) (λ p e. (found (λ port. id_below port == function.id) platform.ports p e).0)))
    ∙ sym (map-append (λ (r : Route). Some r.to) (map (up_from_switch platform) platform.switches) (map (up_from_function platform) platform.functions))
