use Rattle.std.proofs.Common.{◌==◌, sym, ap, ◌∙◌}
use Rattle.platform.specs.Tree.{id_below, port_leading_to}
use Rattle.topology.proofs.Members.{found}
use Rattle.topology.proofs.links.link_of_function.Goals as goal

pub downstream_end-requires : goal.downstream_end-requires
downstream_end-requires c =
    let leads = ap (λ ports. port_leading_to ports c.args.function.now.id) (sym c.ports.ensures.value) ∙ sym c.port_leading_to.ensures ∙ c.in-Some.is in
    (found (λ port. id_below port == c.args.function.now.id) c.args.layout.now.ports c.in-Some.port leads).0
