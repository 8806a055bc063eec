use Rattle.std.proofs.Common.{sym, ◌∙◌}
use Rattle.fabric_core.specs.Kept.{world_in}
use Rattle.fabric_core.proofs.effect.QuietStations.{quiet_idle}
use Rattle.fabric_core.proofs.fabric.Fabric.is_quiet.Goals as goal

pub returns-clause-idle : goal.returns-clause-idle
returns-clause-idle c = λ quiet.
    let w = world_in c.self.inside in
    rw (← c.self.view_is) (quiet_idle w c.args.station.now (sym (c.is_quiet.ensures w.violations w.strays) ∙ quiet))
