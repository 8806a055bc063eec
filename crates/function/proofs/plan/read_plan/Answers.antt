use Rattle.function.proofs.LowestTag.{free_tag-below}
use Rattle.function.proofs.plan.read_plan.Goals as goal

pub returns-in-Some-clause-tag : goal.returns-in-Some-clause-tag
returns-in-Some-clause-tag c = λ line. free_tag-below c.args.open_tags.now.items c.args.id c.in-Some.tag c.in-Some.ensures
