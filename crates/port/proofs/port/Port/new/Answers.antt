use Rattle.std.proofs.Common.{◌≡◌, IfOk, None, Some, [], Option, option_map, subst, sym, ap, ◌∙◌}
use Rattle.platform.specs.Tree.{port_at}
use Rattle.port.specs.Configs.{Config, config_unless_below}
use Rattle.port.proofs.Own.{found_listed}
use Rattle.port.proofs.port.Port.new.Goals as goal

pub returns-in-Some : goal.returns-in-Some
returns-in-Some c =
    let platform = c.args.layout.now in
    let at : c.port_at.result ≡ port_at platform.ports c.args.id = rw (c.ports.ensures.value, c.id.ensures) at c.port_at.ensures in
    let found : Some c.in-Some.line ≡ port_at platform.ports c.args.id = sym c.in-Some.is ∙ at in
    subst (λ (o : Option Config). IfOk c.downstream.result (λ port. port ≡ option_map (λ (config : Config). record { config = config; held = None; kept = None; strays = [] }) o))
    (ap (config_unless_below platform c.args.id) found)
    (c.downstream.ensures.listed (found_listed platform.ports c.args.id c.in-Some.line (sym found)))
