use Rattle.std.proofs.Common.{sym, subst, ◌∙◌}
use Rattle.fabric_core.specs.Invariant.{IsFabric}
use Rattle.fabric_core.specs.Kept.{world_in}
use Rattle.fabric_core.proofs.effect.Over.{over_same}
use Rattle.fabric_core.proofs.effect.Waiting.{waits_idle}
use Rattle.fabric_core.proofs.fabric.Fabric.waits.Goals as goal

pub invariant_of-self : goal.invariant_of-self
invariant_of-self c =
    let f = c.self.inside in
    subst IsFabric (sym (over_same f.interconnect c.waits.new.interconnect f.agents f.reports.violations f.strays.items c.waits.ensures.rest c.waits.ensures.same)) c.self.invariant

pub returns-clause-value : goal.returns-clause-value
returns-clause-value c =
    let w = world_in c.self.inside in
    rw (← c.self.view_is) (c.waits.ensures.value w.agents w.violations w.strays)

pub returns-clause-idle : goal.returns-clause-idle
returns-clause-idle c = λ full.
    let w = world_in c.self.inside in
    rw (← c.self.view_is) (waits_idle w c.args.class c.args.station.now (sym (c.waits.ensures.value w.agents w.violations w.strays) ∙ full))

pub returns-clause-same : goal.returns-clause-same
returns-clause-same c =
    let f = c.self.inside in
    rw (← c.self.view_is) (over_same f.interconnect c.waits.new.interconnect f.agents f.reports.violations f.strays.items c.waits.ensures.rest c.waits.ensures.same)
