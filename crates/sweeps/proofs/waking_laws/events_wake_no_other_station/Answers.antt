use Rattle.sweeps.proofs.Woken.{wakes_no_other}
use Rattle.sweeps.proofs.waking_laws.events_wake_no_other_station.Goals as goal

pub returns : goal.returns
returns c = wakes_no_other
