use Rattle.std.proofs.Common.{sym, ◌∙◌}
use Rattle.sweeps.proofs.Running.{none_goes_on, none_may}
use Rattle.sweeps.proofs.sweep.take_eligible.Goals as goal

pub returns-then-not-has-clause-made : goal.returns-then-not-has-clause-made
returns-then-not-has-clause-made c = none_may c.args.fabric.now c.args.station.now c.args.class c.args.eligible_classes.now c.requires (sym c.has.ensures ∙ c.if-not-has.true)

pub returns-then-still_waits-clause-made : goal.returns-then-still_waits-clause-made
returns-then-still_waits-clause-made c = none_goes_on c.args.fabric.now c.still_waits.new.fabric c.args.station.now c.args.class c.still_waits.ensures.same (c.still_waits.ensures.idle c.if-still_waits.true)
