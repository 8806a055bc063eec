-- Each end of a link is an output that there is.
use Rattle.std.proofs.Common.{◌≡◌, ℕ, suc, ◌+◌, ◌<◌, ◌==◌, List, ◌∷◌, ◌++◌, length, map, get_or, Option, Some, None, refl, sym, ap, ◌∙◌, arith, subst, eqb-true}
use Rattle.std.specs.Prelude.{count_by}
use Rattle.std.specs.List.{position}
use Rattle.std.specs.Option.{option_map_or}
use Rattle.std.proofs.lemmas.List.{get_or-map, get_or-append-add, get_or_append_left, length-map, length-append}
use Rattle.std.proofs.lemmas.List.Quantifiers.{position-Some}
use Rattle.std.proofs.lemmas.List.Sums.{length-filter}
use Rattle.fab_types.specs.Id.{bus_of}
use Rattle.platform.specs.declared.parts.Switch.{Switch}
use Rattle.platform.specs.declared.parts.DownstreamPort.{DownstreamPort}
use Rattle.platform.specs.declared.parts.EndpointFunction.{EndpointFunction}
use Rattle.platform.specs.Platform.{Platform}
use Rattle.platform.specs.Tree.{is_on_bus}
use Rattle.platform.specs.Tree.{internal_bus}
use Rattle.topology.specs.Nodes.{root_end, ports_on, outputs_of_switch, one_output, outputs_of, output_of, end_of_port, downstream_end, function_end, upstream_end_at, upstream_end}
use Rattle.topology.specs.Topologies.{IsEnd}

abbrev pub no_switch : Switch
no_switch = record { id = 0; above = None }

abbrev pub no_function : EndpointFunction
no_function = record { id = 0; bar = 0 }

one_more : (n : ℕ) → 1 + n ≡ suc n
one_more n = omega arith

behind_first : (x : ℕ) (xs : List ℕ) (n : ℕ) → get_or (x ∷ xs) (1 + n) 0 ≡ get_or xs n 0
behind_first x xs n = ap (λ (m : ℕ). get_or (x ∷ xs) m 0) (one_more n)

-- how many nodes there are
pub many : (platform : Platform) → length (outputs_of platform) ≡ 1 + (length platform.switches + length platform.functions)
many platform =
    let both = length-append (map (outputs_of_switch platform.ports) platform.switches) (map one_output platform.functions) in
    let switches : length (map (outputs_of_switch platform.ports) platform.switches) ≡ length platform.switches = length-map platform.switches (outputs_of_switch platform.ports) in
    let functions : length (map one_output platform.functions) ≡ length platform.functions = length-map platform.functions one_output in
    omega arith

pub root_is_end : (platform : Platform) → IsEnd (outputs_of platform) root_end
root_is_end platform = (let n = many platform in omega arith, omega arith)

abbrev of_switches : Platform → List ℕ
of_switches platform = map (outputs_of_switch platform.ports) platform.switches

abbrev of_functions : Platform → List ℕ
of_functions platform = map one_output platform.functions

-- the outputs of a switch
pub outputs_at_switch : (platform : Platform) (place : ℕ) → place < length platform.switches → get_or (outputs_of platform) (1 + place) 0 ≡ outputs_of_switch platform.ports (get_or platform.switches place no_switch)
outputs_at_switch platform place within =
    let long : place < length (of_switches platform) = rw (length-map platform.switches (outputs_of_switch platform.ports)) within in
    behind_first 1 (of_switches platform ++ of_functions platform) place ∙ get_or_append_left (of_switches platform) (of_functions platform) 0 place long ∙ get_or-map (outputs_of_switch platform.ports) platform.switches place no_switch 0 within

outputs_at_function : (platform : Platform) (place : ℕ) → place < length platform.functions → get_or (outputs_of platform) (1 + length platform.switches + place) 0 ≡ 1
outputs_at_function platform place within =
    let switches : length (of_switches platform) ≡ length platform.switches = length-map platform.switches (outputs_of_switch platform.ports) in
    ap (λ (n : ℕ). get_or (outputs_of platform) n 0) (omega arith) ∙ behind_first 1 (of_switches platform ++ of_functions platform) (length platform.switches + place)
    ∙ ap (λ (n : ℕ). get_or (of_switches platform ++ of_functions platform) (n + place) 0) (sym switches)
    ∙ (get_or-append-add (of_switches platform) (of_functions platform) place 0 ∙ get_or-map one_output platform.functions place no_function 0 within)

switch_is_end : (platform : Platform) (place output : ℕ) → place < length platform.switches → output < outputs_of_switch platform.ports (get_or platform.switches place no_switch) → IsEnd (outputs_of platform) (record { node = 1 + place; output = output })
switch_is_end platform place output within fits =
    let n = many platform in
    let outputs = outputs_at_switch platform place within in
    (omega arith, omega arith)

function_is_end : (platform : Platform) (found : Option ℕ) → ((place : ℕ) → found ≡ Some place → place < length platform.functions) → IsEnd (outputs_of platform) (function_end (length platform.switches) found)
function_is_end platform None within = root_is_end platform
function_is_end platform (Some place) within =
    let n = many platform in
    let less = within place refl in
    let outputs = outputs_at_function platform place less in
    (omega arith, omega arith)

upstream_is_end_at : (platform : Platform) (id : ℕ) (found : Option ℕ) → ((place : ℕ) → found ≡ Some place → place < length platform.switches) → IsEnd (outputs_of platform) (upstream_end_at platform id found)
upstream_is_end_at platform id None within =
    function_is_end platform (position (λ function. function.id == id) platform.functions) (λ place e. (position-Some (λ function. function.id == id) platform.functions place no_function e).0)
upstream_is_end_at platform id (Some place) within = switch_is_end platform place 0 (within place refl) (omega arith)

pub upstream_is_end : (platform : Platform) (id : ℕ) → IsEnd (outputs_of platform) (upstream_end platform id)
upstream_is_end platform id =
    upstream_is_end_at platform id (position (λ switch. switch.id == id) platform.switches) (λ place e. (position-Some (λ switch. switch.id == id) platform.switches place no_switch e).0)

-- a port's output is one of its switch
output_fits : (ports : List DownstreamPort) (port : DownstreamPort) (bus : ℕ) (found : Option ℕ) → ((place : ℕ) → found ≡ Some place → place < length (ports_on ports bus)) → option_map_or suc found 0 < 1 + count_by (is_on_bus bus) ports
output_fits ports port bus None within = omega arith
output_fits ports port bus (Some place) within =
    let less = within place refl in
    let long = length-filter (is_on_bus bus) ports in
    omega arith

downstream_is_end_at : (platform : Platform) (port : DownstreamPort) (found : Option ℕ)
    → ((place : ℕ) → found ≡ Some place → (place < length platform.switches) × (internal_bus (get_or platform.switches place no_switch) ≡ bus_of port.id)) → IsEnd (outputs_of platform) (end_of_port platform.ports port found)
downstream_is_end_at platform port None is = root_is_end platform
downstream_is_end_at platform port (Some place) is =
    let here = is place refl in
    let none : DownstreamPort = port in
    let fits = output_fits platform.ports port (bus_of port.id) (position (λ other. other.id == port.id) (ports_on platform.ports (bus_of port.id)))
    (λ k e. (position-Some (λ other. other.id == port.id) (ports_on platform.ports (bus_of port.id)) k port e).0) in
    switch_is_end platform place (output_of platform.ports port) here.0 (subst (λ (bus : ℕ). output_of platform.ports port < 1 + count_by (is_on_bus bus) platform.ports) (sym here.1) fits)

-- where the port's switch stands
pub switch_found : (platform : Platform) (port : DownstreamPort) (place : ℕ) → position (λ switch. internal_bus switch == bus_of port.id) platform.switches ≡ Some place
    → (place < length platform.switches) × (internal_bus (get_or platform.switches place no_switch) ≡ bus_of port.id)
switch_found platform port place e =
    let found = position-Some (λ switch. internal_bus switch == bus_of port.id) platform.switches place no_switch e in
    (found.0, eqb-true _ _ found.1)

pub downstream_is_end : (platform : Platform) (port : DownstreamPort) → IsEnd (outputs_of platform) (downstream_end platform port)
downstream_is_end platform port = downstream_is_end_at platform port (position (λ switch. internal_bus switch == bus_of port.id) platform.switches) (switch_found platform port)
