use Rattle.std.proofs.Common.{◌∙◌, ap, arith, length}
use Rattle.function.proofs.Numbers.{length-and_open}
use Rattle.domain.proofs.begin.open.Goals as goal

pub returns-in-Some-clause-one : goal.returns-in-Some-clause-one
returns-in-Some-clause-one c =
    let longer = ap length c.open_reserved.ensures ∙ length-and_open _ c.args.tags.now.items in omega (arith, longer)
