use Rattle.fabric_core.proofs.progress.Stations.{station_listed}
use Rattle.fabric_core.proofs.laws.stations_are_those_of_the_layout.Goals as goal

pub returns : goal.returns
returns c = station_listed
