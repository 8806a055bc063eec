use Rattle.std.proofs.Common.{◌≡◌, ◌==◌, sym, ◌∙◌}
use Rattle.std.specs.List.{position}
use Rattle.fab_types.specs.Id.{bus_of}
use Rattle.platform.specs.declared.parts.DownstreamPort.{DownstreamPort}
use Rattle.platform.specs.declared.parts.Switch.{Switch}
use Rattle.platform.specs.Tree.{internal_bus}
use Rattle.topology.specs.Nodes.{ports_on}
use Rattle.topology.proofs.Known.{end_of_known, place_known, switch_known}
use Rattle.topology.proofs.nodes.downstream_end.Goals as goal

pub unreachable-requires : goal.unreachable-requires
unreachable-requires c =
    let found : c.switch_on.result ≡ position (λ (switch : Switch). internal_bus switch == bus_of c.args.port.now.id) c.args.layout.now.switches = rw (c.from-bus.ensures, c.bus.ensures, c.id.ensures, c.switches.ensures.value) at c.switch_on.ensures in
    switch_known c.args.layout.now c.args.port.now c.switches.ensures.laws c.requires (sym found ∙ c.in_default.is)

pub unreachable-requires-in_default-place_on : goal.unreachable-requires-in_default-place_on
unreachable-requires-in_default-place_on c =
    let found : c.place_on.result ≡ position (λ (other : DownstreamPort). other.id == c.args.port.now.id) (ports_on c.args.layout.now.ports (bus_of c.args.port.now.id)) = rw (c.from-bus.ensures, c.bus.ensures, c.id.ensures, c.ports.ensures.value) at c.place_on.ensures.place in
    place_known c.args.layout.now.ports c.args.port.now c.requires (sym found ∙ c.in_default-place_on.is)

pub returns : goal.returns
returns c =
    let switch : c.switch_on.result ≡ position (λ (switch : Switch). internal_bus switch == bus_of c.args.port.now.id) c.args.layout.now.switches = rw (c.from-bus.ensures, c.bus.ensures, c.id.ensures, c.switches.ensures.value) at c.switch_on.ensures in
    let place : c.place_on.result ≡ position (λ (other : DownstreamPort). other.id == c.args.port.now.id) (ports_on c.args.layout.now.ports (bus_of c.args.port.now.id)) = rw (c.from-bus.ensures, c.bus.ensures, c.id.ensures, c.ports.ensures.value) at c.place_on.ensures.place in
    end_of_known c.args.layout.now c.args.port.now c.in-Some.switch c.in-Some-place_on.place (sym switch ∙ c.in-Some.is) (sym place ∙ c.in-Some-place_on.is)
