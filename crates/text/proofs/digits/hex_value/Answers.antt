use Rattle.std.proofs.Common.{arith}
use Rattle.text.proofs.TextLemmas.{below_sixteen}
use Rattle.text.proofs.digits.hex_value.Goals as goal

pub overflow_mul-value : goal.overflow_mul-value
overflow_mul-value c = omega (arith, below_sixteen c.loop-byte.value c.loop-byte.byte-index c.loop-byte.invariant.small (omega arith))

pub overflow_add-value : goal.overflow_add-value
overflow_add-value c = omega (arith, below_sixteen c.loop-byte.value c.loop-byte.byte-index c.loop-byte.invariant.small (omega arith), c.in-Some.ensures.small)
