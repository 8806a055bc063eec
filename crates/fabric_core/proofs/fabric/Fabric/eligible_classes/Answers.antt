use Rattle.std.proofs.Common.{sym, ◌∙◌}
use Rattle.fabric_core.specs.Kept.{world_in}
use Rattle.fabric_core.proofs.effect.QuietStations.{none_leaves}
use Rattle.fabric_core.proofs.fabric.Fabric.eligible_classes.Goals as goal

pub returns-clause-idle : goal.returns-clause-idle
returns-clause-idle c = λ class none.
    let w = world_in c.self.inside in
    rw (← c.self.view_is) (none_leaves w c.args.station.now class (sym (c.eligible_classes.ensures w.violations w.strays class) ∙ none))
