-- The tree of a platform: each end is an output that there is, and what comes into a port comes from another node.
use Rattle.std.proofs.Common.{◌≡◌, ◌≢◌, ℕ, ◌+◌, ◌*◌, ◌<◌, ◌≤◌, ◌==◌, Bool, true, false, cond, List, length, get_or, Option, Some, None, refl, sym, ap, ◌∙◌, arith, subst, eqb-true, eq-eqb}
use Rattle.std.specs.Prelude.{All, option_and_then}
use Rattle.std.specs.List.{list_all, position, position_or_len}
use Rattle.std.proofs.lemmas.Bool.{ltb-true}
use Rattle.std.proofs.lemmas.List.Elements.{All-append, All-map}
use Rattle.std.proofs.lemmas.List.Quantifiers.{position-Some}
use Rattle.std.proofs.lemmas.List.Sums.{AllPass-from_list_all}
use Rattle.fab_types.specs.Id.{bus_of}
use Rattle.platform.specs.declared.parts.Switch.{Switch}
use Rattle.platform.specs.declared.parts.DownstreamPort.{DownstreamPort}
use Rattle.platform.specs.declared.parts.EndpointFunction.{EndpointFunction}
use Rattle.layout.specs.Laws.{IsPlatform, is_hung, is_hung_by, is_hung_below, is_inside, is_nested, is_nested_on}
use Rattle.platform.specs.Platform.{Platform}
use Rattle.platform.specs.Tree.{id_below, internal_bus, is_taken, port_above, port_at, port_leading_to, switch_on}
use Rattle.platform.proofs.Bools.{all-found, and-first, and-second}
use Rattle.topology.specs.Nodes.{outputs_of, downstream_end, upstream_end, upstream_end_at, end_of_port, function_end}
use Rattle.topology.specs.Links.{end_above, link_of_switch, link_of_function}
use Rattle.topology.specs.Places.{upstream_place, downstream_place}
use Rattle.topology.specs.Topologies.{IsEnd, IsFromElsewhere, IsLink, IsPlace, IsTree, tree_of}
use Rattle.topology.proofs.Known.{id_known}
pub use Rattle.topology.proofs.Members.{listed}
use Rattle.topology.proofs.Ends.{no_switch, root_is_end, upstream_is_end, downstream_is_end, switch_found}

above_is_end : (platform : Platform) (port : Option DownstreamPort) → IsEnd (outputs_of platform) (end_above platform port)
above_is_end platform None = root_is_end platform
above_is_end platform (Some port) = downstream_is_end platform port

-- a port's buses come after its own
inside_after : (above : Option DownstreamPort) (port : DownstreamPort) → is_inside above port ≡ true → bus_of port.id < port.secondary
inside_after None port h = ltb-true _ _ h
inside_after (Some above) port h = ltb-true _ _ (and-first _ _ (and-first _ _ (and-first _ _ h)))

nested_after : (ports : List DownstreamPort) (switch : Option Switch) (port : DownstreamPort) → is_nested_on ports switch port ≡ true → bus_of port.id < port.secondary
nested_after ports None port h = absurd cc
nested_after ports (Some switch) port h = inside_after (port_above ports switch) port (and-second _ _ h)

-- a bus above that of a port is another switch's
other_switch : (platform : Platform) (port : DownstreamPort) (place : ℕ) (id : ℕ) → place < length platform.switches → (get_or platform.switches place no_switch).id ≡ id → id ≡ id_below port → bus_of port.id < port.secondary
    → (downstream_end platform port).node ≢ 1 + place
other_switch platform port place id within is below after same = go (position (λ switch. internal_bus switch == bus_of port.id) platform.switches) refl same
  where
    go : (found : Option ℕ) → found ≡ position (λ switch. internal_bus switch == bus_of port.id) platform.switches → (end_of_port platform.ports port found).node ≡ 1 + place → ⊥
    go None e h = omega (arith, h)
    go (Some other) e h =
        let found = switch_found platform port other (sym e) in
        let one : other ≡ place = omega (arith, h) in
        let buses : internal_bus (get_or platform.switches place no_switch) ≡ bus_of port.id = subst (λ (n : ℕ). internal_bus (get_or platform.switches n no_switch) ≡ bus_of port.id) one found.1 in
        let id_is : (get_or platform.switches place no_switch).id ≡ port.secondary * 256 + 0 * 8 + 0 = is ∙ below in
        omega (arith, buses, id_is, after)

-- ---- links

pub links_sound : (platform : Platform) → All (IsLink (outputs_of platform)) (tree_of platform).links
links_sound platform = All-append (IsLink (outputs_of platform)) _ _
    (All-map (IsLink (outputs_of platform)) (link_of_switch platform) platform.switches (λ k d less. of_switch (get_or platform.switches k d)))
    (All-map (IsLink (outputs_of platform)) (link_of_function platform) platform.functions (λ k d less. of_function (get_or platform.functions k d)))
  where
    of_switch : (switch : Switch) → IsLink (outputs_of platform) (link_of_switch platform switch)
    of_switch switch = record { above = above_is_end platform (port_above platform.ports switch); below = upstream_is_end platform switch.id }

    of_function : (function : EndpointFunction) → IsLink (outputs_of platform) (link_of_function platform function)
    of_function function = record { above = above_is_end platform (port_leading_to platform.ports function.id); below = upstream_is_end platform function.id }

-- ---- the upstream port of a switch

-- it stands directly below the port above it, whose buses come after its own
hung_below : (platform : Platform) (switch : Switch) (above : Option ℕ) (port : DownstreamPort) → list_all (is_nested platform.switches platform.ports) platform.ports ≡ true → is_hung_by platform.ports above switch ≡ true
    → option_and_then (λ id. port_at platform.ports id) above ≡ Some port → (switch.id ≡ id_below port) × (bus_of port.id < port.secondary)
hung_below platform switch None port nested h e = absurd cc
hung_below platform switch (Some above) port nested h e =
    let below : is_hung_below (Some port) switch ≡ true = subst (λ (o : Option DownstreamPort). is_hung_below o switch ≡ true) e h in (
      eqb-true _ _ (and-first _ _ below),
      nested_after platform.ports (switch_on platform.switches (bus_of port.id)) port (all-found (λ (p : DownstreamPort). p.id == above) (is_nested platform.switches platform.ports) platform.ports port e nested),
    )

upstream_apart_at : (platform : Platform) (switch : Switch) (place : ℕ) (port : Option DownstreamPort) → place < length platform.switches → (get_or platform.switches place no_switch).id ≡ switch.id
    → ((p : DownstreamPort) → port ≡ Some p → (switch.id ≡ id_below p) × (bus_of p.id < p.secondary)) → (end_above platform port).node ≢ 1 + place
upstream_apart_at platform switch place None within is hangs same = omega (arith, same)
upstream_apart_at platform switch place (Some port) within is hangs same =
    let here = hangs port refl in
    other_switch platform port place switch.id within is here.0 here.1 same

upstream_apart : (platform : Platform) (switch : Switch) (k : ℕ) (d : Switch) → list_all (is_nested platform.switches platform.ports) platform.ports ≡ true → is_hung platform.ports switch ≡ true
    → k < length platform.switches → get_or platform.switches k d ≡ switch → (end_above platform (port_above platform.ports switch)).node ≢ (upstream_end platform switch.id).node
upstream_apart platform switch k d nested hung less is same =
    let p : Switch → Bool = λ line. line.id == switch.id in
    let place : ℕ = position_or_len p platform.switches in
    let found : position p platform.switches ≡ Some place = listed p platform.switches k d less (ap p is ∙ eq-eqb switch.id switch.id refl) in
    let facts = position-Some p platform.switches place no_switch found in
    let node : (upstream_end platform switch.id).node ≡ 1 + place = ap (λ (o : Option ℕ). (upstream_end_at platform switch.id o).node) found in
    upstream_apart_at platform switch place (port_above platform.ports switch) facts.0 (eqb-true _ _ facts.1) (λ port e. hung_below platform switch switch.above port nested hung e) (same ∙ node)

-- ---- a downstream port

downstream_low : (platform : Platform) (port : DownstreamPort) (found : Option ℕ) → found ≡ position (λ switch. internal_bus switch == bus_of port.id) platform.switches → (end_of_port platform.ports port found).node ≤ length platform.switches
downstream_low platform port None e = omega arith
downstream_low platform port (Some place) e = let found = switch_found platform port place (sym e) in omega arith

function_apart : (platform : Platform) (port : DownstreamPort) (found : Option ℕ) → (found ≡ None → ⊥) → (function_end (length platform.switches) found).node ≢ (downstream_end platform port).node
function_apart platform port None some same = some refl
function_apart platform port (Some place) some same =
    let low : (downstream_end platform port).node ≤ length platform.switches = downstream_low platform port (position (λ switch. internal_bus switch == bus_of port.id) platform.switches) refl in
    omega (arith, same, low)

below_apart : (platform : Platform) (port : DownstreamPort) (found : Option ℕ) → found ≡ position (λ switch. switch.id == id_below port) platform.switches → bus_of port.id < port.secondary → is_taken platform.switches platform.functions (id_below port) ≡ true
    → (upstream_end_at platform (id_below port) found).node ≢ (downstream_end platform port).node
below_apart platform port None e after taken same =
    function_apart platform port (position (λ function. function.id == id_below port) platform.functions)
    (λ none. id_known platform (id_below port) taken (sym e) none) same
below_apart platform port (Some place) e after taken same =
    let facts = position-Some (λ switch. switch.id == id_below port) platform.switches place no_switch (sym e) in
    other_switch platform port place (id_below port) facts.0 (eqb-true _ _ facts.1) refl after (sym same)

input_elsewhere : (platform : Platform) (port : DownstreamPort) (taken : Bool) → taken ≡ is_taken platform.switches platform.functions (id_below port) → bus_of port.id < port.secondary
    → IsFromElsewhere (outputs_of platform) (downstream_end platform port).node (cond taken (Some (upstream_end platform (id_below port))) None)
input_elsewhere platform port false e after = tt
input_elsewhere platform port true e after =
    (upstream_is_end platform (id_below port), below_apart platform port (position (λ switch. switch.id == id_below port) platform.switches) refl after (sym e))

-- ---- both

pub places_sound : (platform : Platform) → IsPlatform platform → All (IsPlace (outputs_of platform)) (tree_of platform).places
places_sound platform laws = All-append (IsPlace (outputs_of platform)) _ _
    (All-map (IsPlace (outputs_of platform)) (upstream_place platform) platform.switches (λ k d less. of_switch (get_or platform.switches k d) k d less refl (AllPass-from_list_all (is_hung platform.ports) platform.switches laws.hung k d less)))
    (All-map (IsPlace (outputs_of platform)) (downstream_place platform) platform.ports (λ k d less. of_port (get_or platform.ports k d) (AllPass-from_list_all (is_nested platform.switches platform.ports) platform.ports laws.nested k d less)))
  where
    of_switch : (switch : Switch) (k : ℕ) (d : Switch) → k < length platform.switches → get_or platform.switches k d ≡ switch → is_hung platform.ports switch ≡ true → IsPlace (outputs_of platform) (upstream_place platform switch)
    of_switch switch k d less is hung = record {
      node = (upstream_is_end platform switch.id).0;
      input = (above_is_end platform (port_above platform.ports switch), upstream_apart platform switch k d laws.nested hung less is);
    }

    of_port : (port : DownstreamPort) → is_nested platform.switches platform.ports port ≡ true → IsPlace (outputs_of platform) (downstream_place platform port)
    of_port port nested = record {
      node = (downstream_is_end platform port).0;
      input = input_elsewhere platform port (is_taken platform.switches platform.functions (id_below port)) refl (nested_after platform.ports (switch_on platform.switches (bus_of port.id)) port nested);
    }

pub sound : (platform : Platform) → IsPlatform platform → IsTree (tree_of platform)
sound platform laws = record { links = links_sound platform; places = places_sound platform laws }
