use Rattle.guarded_routes.proofs.LinksBelow.{way_holds}
use Rattle.guarded_routes.proofs.laws.ways_hold_their_function.Goals as goal

pub returns : goal.returns
returns c = λ platform domain function links guarded own way. way_holds platform guarded domain function links own way
