use Rattle.std.proofs.Common.{◌≡◌, ◌∙◌}
use Rattle.bridge.proofs.Upstream.{firsts}
use Rattle.bridge.proofs.routing.Bridge.new.Goals as goal

pub new-requires-2 : goal.new-requires-2
new-requires-2 c =
    let lines : c.deref.result.now ≡ c.args.layout.now.switches = c.deref.ensures.value ∙ c.in_ok-lines.ensures.items ∙ c.switches.ensures.value in
    rw lines (firsts c.args.layout.now.switches c.args.layout.now.ports c.switches.ensures.laws.hung)
