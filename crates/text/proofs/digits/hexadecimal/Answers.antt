use Rattle.text.proofs.TextLemmas.{small-grown}
use Rattle.std.proofs.Common.{length, arith}
use Rattle.text.proofs.digits.hexadecimal.Goals as goal

pub returns-then-text-most-clause-small : goal.returns-then-text-most-clause-small
returns-then-text-most-clause-small c = small-grown c.hex_value.result (length c.args.text.now) c.args.most (omega arith) c.hex_value.ensures.small
