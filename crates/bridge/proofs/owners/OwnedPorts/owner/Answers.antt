use Rattle.std.proofs.Common.{◌≡◌, ◌<◌, ◌∙◌, sym, ap, List, length, arith}
use Rattle.fab_types.specs.Id.{bus_of, function_of}
use Rattle.platform.specs.declared.parts.DownstreamPort.{DownstreamPort}
use Rattle.platform.specs.Owners.{owner_of, owner_of_bus}
use Rattle.bridge.specs.Owners.{owner_of_host}
use Rattle.bridge.proofs.Tables.{length-table_of, table_of-read}
use Rattle.bridge.proofs.Hosts.{owner-host, owner-elsewhere}
use Rattle.bridge.proofs.owners.OwnedPorts.owner.Goals.{else-bus-eq0-via-then-bus-eq0+else-function-eq0, else-bus-eq0-via-else-bus-eq0}
use Rattle.bridge.proofs.owners.OwnedPorts.owner.Goals as goal

pub index-requires : goal.index-requires
index-requires c =
    let long : length c.self.inside.hosts.items ≡ 32 = ap length c.self.invariant.hosts ∙ length-table_of 32 (owner_of_host c.self.inside.ports.items) in
    omega arith

pub index-requires-else-bus-eq0 : goal.index-requires-else-bus-eq0
index-requires-else-bus-eq0 c =
    let long : length c.self.inside.buses.items ≡ 256 = ap length c.self.invariant.buses ∙ length-table_of 256 (owner_of_bus c.self.inside.ports.items) in
    omega arith

pub returns-then-function-eq0 : goal.returns-then-function-eq0
returns-then-function-eq0 c =
    let within : c.from.result < 32 = omega arith in
    let bus : bus_of c.args.id ≡ 0 = omega arith in
    let function : function_of c.args.id ≡ 0 = omega arith in
    table_of-read 32 (owner_of_host c.self.inside.ports.items) c.self.inside.hosts.items c.from.result c.index.result.now c.self.invariant.hosts within c.index.ensures
    ∙ ap (owner_of_host c.self.inside.ports.items) (c.from.ensures ∙ c.device.ensures)
    ∙ owner-host c.self.inside.ports.items c.args.id bus function ∙ ap (λ (ports : List DownstreamPort). owner_of ports c.args.id) c.self.view_is

pub returns-else-bus-eq0 : goal.returns-else-bus-eq0
returns-else-bus-eq0 c =
    let within : c.from-else-bus-eq0.result < 256 = omega arith in
    let never : bus_of c.args.id ≡ 0 → function_of c.args.id ≡ 0 → ⊥ = λ bus function.
    elim c.else-bus-eq0.branch [ else-bus-eq0-via-then-bus-eq0+else-function-eq0 w ↦ absurd (omega arith) | else-bus-eq0-via-else-bus-eq0 w ↦ absurd (omega arith) ] in
    table_of-read 256 (owner_of_bus c.self.inside.ports.items) c.self.inside.buses.items c.from-else-bus-eq0.result c.index-else-bus-eq0.result.now c.self.invariant.buses within c.index-else-bus-eq0.ensures
    ∙ ap (owner_of_bus c.self.inside.ports.items) (c.from-else-bus-eq0.ensures ∙ c.bus-else-bus-eq0.ensures)
    ∙ sym (owner-elsewhere c.self.inside.ports.items c.args.id never) ∙ ap (λ (ports : List DownstreamPort). owner_of ports c.args.id) c.self.view_is
