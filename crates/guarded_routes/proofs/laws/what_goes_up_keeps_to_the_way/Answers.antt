use Rattle.guarded_routes.proofs.LinksBelow.{output_up_keeps}
use Rattle.guarded_routes.proofs.laws.what_goes_up_keeps_to_the_way.Goals as goal

pub returns : goal.returns
returns c = λ platform line switch direction guarded listed on leads. output_up_keeps platform guarded line switch direction listed on leads
