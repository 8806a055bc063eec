-- A route that is found in one switch alone is the route.
use Rattle.std.proofs.Common.{◌≡◌, ℕ, true, cond, List, Option, Some, None, refl, sym, ap, ◌∙◌}
use Rattle.std.specs.Prelude.{◌==◌, option_map}
use Rattle.std.specs.List.{list_all}
use Rattle.std.proofs.lemmas.Bool.{eqb-true, eq-eqb, false≢true}
use Rattle.fab_types.specs.Id.{bus_of}
use Rattle.platform.specs.declared.parts.DownstreamPort.{DownstreamPort}
use Rattle.platform.specs.declared.parts.Switch.{Switch}
use Rattle.layout.specs.Laws.{is_nested, is_nested_on}
use Rattle.platform.specs.Tree.{is_on_bus}
use Rattle.platform.specs.Tree.{port_at, internal_bus, switch_on}
use Rattle.platform.proofs.Bools.{all-found}
use Rattle.bridge.specs.declared.route.Route.TheVariants.{Up, OwnEgress, Nobody}
use Rattle.bridge.specs.declared.target.Target.{Target}
use Rattle.bridge.specs.Routes.{port_to_bus, bus_table, holds, holder_on, to_holder, switch_at, route_below, route_from}
use Rattle.bridge.specs.declared.target.Target.TheVariants.{Bus}
use Rattle.bridge.proofs.Tables.{table_of-same}
use Rattle.bridge.specs.Groups.{Group, port_to_bus_of, bus_table_of, group_of, groups_of, group_at, holder_of, route_into, route_unless_own, route_unless_on, route_among}
use Rattle.bridge.proofs.Finding.{find-passes, find-map, find-filter, find-both}

-- the ports of a switch, and among them a port by its ID
own-among : (ports : List DownstreamPort) (line : Switch) (ingress : ℕ) → (internal_bus line == bus_of ingress) ≡ true
    → port_at (group_of ports line).ports ingress ≡ port_at ports ingress
own-among ports line ingress on =
    find-filter (λ (port : DownstreamPort). port.id == ingress) (is_on_bus (internal_bus line)) ports
    ∙ find-both (λ (port : DownstreamPort). port.id == ingress) (is_on_bus (internal_bus line)) ports
    (λ port is. eq-eqb (bus_of port.id) (internal_bus line) (ap bus_of (eqb-true port.id ingress is) ∙ sym (eqb-true (internal_bus line) (bus_of ingress) on)))

-- and the one that has the target below
holder-among : (ports : List DownstreamPort) (line : Switch) (target : Option Target) → holder_of (group_of ports line) target ≡ holder_on ports (internal_bus line) target
holder-among ports line target = find-filter (λ (port : DownstreamPort). holds port target) (is_on_bus (internal_bus line)) ports

into-same : (ports : List DownstreamPort) (line : Option Switch) (target : Option Target) → route_into (option_map (group_of ports) line) target ≡ route_below ports line target
into-same ports None target = refl
into-same ports (Some line) target = ap (to_holder Nobody) (holder-among ports line target)

below-same : (switches : List Switch) (ports : List DownstreamPort) (ingress : ℕ) (target : Option Target)
    → route_into (group_at (groups_of switches ports) ingress) target ≡ route_below ports (switch_at switches ingress) target
below-same switches ports ingress target =
    ap (λ o. route_into o target) (find-map (λ (group : Group). group.line.id == ingress) (group_of ports) switches)
    ∙ into-same ports (switch_at switches ingress) target

across-same : (ports : List DownstreamPort) (line : Switch) (own : DownstreamPort) (target : Option Target) → internal_bus line ≡ bus_of own.id
    → to_holder Up (holder_of (group_of ports line) target) ≡ to_holder Up (holder_on ports (bus_of own.id) target)
across-same ports line own target same = ap (to_holder Up) (holder-among ports line target ∙ ap (λ (bus : ℕ). holder_on ports bus target) same)

own-same : (switches : List Switch) (ports : List DownstreamPort) (ingress : ℕ) (target : Option Target) (line : Switch) (own : Option DownstreamPort)
    → (internal_bus line == bus_of ingress) ≡ true → port_at ports ingress ≡ own
    → route_unless_own (groups_of switches ports) ingress target (group_of ports line) own ≡ route_from switches ports ingress target own
own-same switches ports ingress target line None on at = below-same switches ports ingress target
own-same switches ports ingress target line (Some own) on at =
    let is : own.id ≡ ingress = eqb-true own.id ingress (find-passes (λ (port : DownstreamPort). port.id == ingress) ports own at) in
    let same : internal_bus line ≡ bus_of own.id = eqb-true (internal_bus line) (bus_of ingress) on ∙ ap bus_of (sym is) in
    ap (λ r. cond (holds own target) OwnEgress r) (across-same ports line own target same)

nested-some : (ports : List DownstreamPort) (line : Option Switch) (port : DownstreamPort) → is_nested_on ports line port ≡ true → line ≡ None → ⊥
nested-some ports None port h e = false≢true h
nested-some ports (Some line) port h e = cc

-- each port is one of a switch
no-port : (switches : List Switch) (ports : List DownstreamPort) (ingress : ℕ) (own : Option DownstreamPort) → list_all (is_nested switches ports) ports ≡ true
    → switch_on switches (bus_of ingress) ≡ None → port_at ports ingress ≡ own → own ≡ None
no-port switches ports ingress None nested none at = refl
no-port switches ports ingress (Some own) nested none at =
    let is : own.id ≡ ingress = eqb-true own.id ingress (find-passes (λ (port : DownstreamPort). port.id == ingress) ports own at) in
    let there : is_nested switches ports own ≡ true = all-found (λ (port : DownstreamPort). port.id == ingress) (is_nested switches ports) ports own at nested in
    absurd (nested-some ports (switch_on switches (bus_of own.id)) own there (ap (λ (id : ℕ). switch_on switches (bus_of id)) is ∙ none))

on-same : (switches : List Switch) (ports : List DownstreamPort) (ingress : ℕ) (target : Option Target) (line : Option Switch) → list_all (is_nested switches ports) ports ≡ true
    → switch_on switches (bus_of ingress) ≡ line
    → route_unless_on (groups_of switches ports) ingress target (option_map (group_of ports) line) ≡ route_from switches ports ingress target (port_at ports ingress)
on-same switches ports ingress target None nested on =
    below-same switches ports ingress target
    ∙ ap (route_from switches ports ingress target) (sym (no-port switches ports ingress (port_at ports ingress) nested on refl))
on-same switches ports ingress target (Some line) nested on =
    let there : (internal_bus line == bus_of ingress) ≡ true = find-passes (λ (s : Switch). internal_bus s == bus_of ingress) switches line on in
    ap (route_unless_own (groups_of switches ports) ingress target (group_of ports line)) (own-among ports line ingress there)
    ∙ own-same switches ports ingress target line (port_at ports ingress) there refl

pub grouped : (switches : List Switch) (ports : List DownstreamPort) (ingress : ℕ) (target : Option Target) → list_all (is_nested switches ports) ports ≡ true
    → route_among (groups_of switches ports) ingress target ≡ route_from switches ports ingress target (port_at ports ingress)
grouped switches ports ingress target nested =
    ap (route_unless_on (groups_of switches ports) ingress target) (find-map (λ (group : Group). internal_bus group.line == bus_of ingress) (group_of ports) switches)
    ∙ on-same switches ports ingress target (switch_on switches (bus_of ingress)) nested refl

table-same : (ports : List DownstreamPort) (line : Switch) → bus_table_of (group_of ports line).ports ≡ bus_table ports line
table-same ports line = table_of-same 256 (port_to_bus_of (group_of ports line).ports) (port_to_bus ports (internal_bus line)) (λ bus. ap (option_map (λ (port : DownstreamPort). port.id)) (holder-among ports line (Some (Bus bus))))

table-into : (ports : List DownstreamPort) (line : Option Switch) → option_map (λ (group : Group). bus_table_of group.ports) (option_map (group_of ports) line) ≡ option_map (bus_table ports) line
table-into ports None = refl
table-into ports (Some line) = ap Some (table-same ports line)

-- the table of a switch's own ports is that of the ports on its internal bus
pub table-grouped : (switches : List Switch) (ports : List DownstreamPort) (id : ℕ)
    → option_map (λ (group : Group). bus_table_of group.ports) (group_at (groups_of switches ports) id) ≡ option_map (bus_table ports) (switch_at switches id)
table-grouped switches ports id =
    ap (option_map (λ (group : Group). bus_table_of group.ports)) (find-map (λ (group : Group). group.line.id == id) (group_of ports) switches)
    ∙ table-into ports (switch_at switches id)
