use Rattle.sweeps.proofs.Woken.{leaves_quiet}
use Rattle.sweeps.proofs.waking_laws.events_leave_other_stations_quiet.Goals as goal

pub returns : goal.returns
returns c = leaves_quiet
