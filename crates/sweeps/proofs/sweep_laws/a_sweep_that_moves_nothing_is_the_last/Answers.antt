use Rattle.sweeps.proofs.Settling.{settled}
use Rattle.sweeps.proofs.sweep_laws.a_sweep_that_moves_nothing_is_the_last.Goals as goal

pub returns : goal.returns
returns c platform laws sweep is_sweep events outcomes old new run swept = settled platform sweep is_sweep laws events outcomes old new run swept
