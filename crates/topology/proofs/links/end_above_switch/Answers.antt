use Rattle.std.proofs.Common.{sym, ap, ◌∙◌}
use Rattle.platform.specs.Tree.{port_above}
use Rattle.topology.proofs.Known.{above_known}
use Rattle.topology.proofs.links.end_above_switch.Goals as goal

pub downstream_end-requires : goal.downstream_end-requires
downstream_end-requires c =
    above_known c.args.layout.now.ports c.args.switch.now.above c.in-Some.port (ap (λ ports. port_above ports c.args.switch.now) (sym c.ports.ensures.value) ∙ sym c.port_above.ensures ∙ c.in-Some.is)
