use Rattle.guarded_routes.proofs.LinksBelow.{one_below_switch}
use Rattle.guarded_routes.proofs.laws.one_link_below.Goals as goal

pub returns : goal.returns
returns c = λ platform domain function one other above guarded own over also below there. one_below_switch platform guarded domain function one other above own over also below there
