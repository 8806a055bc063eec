use Rattle.std.proofs.Common.{sym, ◌∙◌}
use Rattle.fabric_core.specs.Kept.{world_in}
use Rattle.fabric_core.proofs.effect.QuietStations.{homeless_idle}
use Rattle.fabric_core.proofs.fabric.Fabric.home.Goals as goal

pub returns-clause-idle : goal.returns-clause-idle
returns-clause-idle c = λ takes none.
    let w = world_in c.self.inside in
    rw (← c.self.view_is) (homeless_idle w c.args.event.now takes (sym (c.home.ensures w.violations w.strays) ∙ none))
