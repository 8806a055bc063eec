use Rattle.std.proofs.Common.{◌≡◌, ◌==◌, sym, ◌∙◌}
use Rattle.std.specs.List.{position}
use Rattle.platform.specs.declared.parts.Switch.{Switch}
use Rattle.platform.specs.declared.parts.EndpointFunction.{EndpointFunction}
use Rattle.topology.proofs.Known.{id_known}
use Rattle.topology.proofs.nodes.upstream_end.Goals as goal

pub unreachable-requires : goal.unreachable-requires
unreachable-requires c =
    let switch : c.switch_with.result ≡ position (λ (switch : Switch). switch.id == c.args.id) c.args.layout.now.switches = rw c.switches.ensures.value at c.switch_with.ensures in
    let function : c.function_with.result ≡ position (λ (function : EndpointFunction). function.id == c.args.id) c.args.layout.now.functions = rw c.functions.ensures.value at c.function_with.ensures in
    id_known c.args.layout.now c.args.id c.requires (sym switch ∙ c.in_default.is) (sym function ∙ c.in_default-function_with.is)
