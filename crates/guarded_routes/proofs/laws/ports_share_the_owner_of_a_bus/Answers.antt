use Rattle.guarded_routes.proofs.BusOwners.{owner_is}
use Rattle.guarded_routes.proofs.laws.ports_share_the_owner_of_a_bus.Goals as goal

pub returns : goal.returns
returns c = λ platform port bus laws listed held. owner_is platform laws port listed bus held
