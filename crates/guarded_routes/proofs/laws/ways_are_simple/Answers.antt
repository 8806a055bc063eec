use Rattle.guarded_routes.proofs.Links.{buses_fall, later_lower, starts, tails}
use Rattle.guarded_routes.proofs.laws.ways_are_simple.Goals as goal

pub returns-clause-falls : goal.returns-clause-falls
returns-clause-falls c = λ platform lower first links way. buses_fall platform lower first links way

pub returns-clause-places : goal.returns-clause-places
returns-clause-places c = λ platform lower links earlier later one other way order here there. later_lower platform lower links way earlier later one other order here there

pub returns-clause-starts : goal.returns-clause-starts
returns-clause-starts c = λ platform lower first links way. starts platform lower first links way

pub returns-clause-tails : goal.returns-clause-tails
returns-clause-tails c = λ platform lower first next links way. tails platform lower first next links way
