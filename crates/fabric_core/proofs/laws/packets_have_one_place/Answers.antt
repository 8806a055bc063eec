use Rattle.fabric_core.proofs.places.OnePlace.{one_place}
use Rattle.fabric_core.proofs.laws.packets_have_one_place.Goals as goal

pub returns : goal.returns
returns c w fabric guarded = one_place w fabric guarded
