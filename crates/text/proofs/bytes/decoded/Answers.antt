use Rattle.std.proofs.Common.{arith, rules}
use Rattle.text.proofs.Decoding.{read_next, read_whole}
use Rattle.text.proofs.bytes.decoded.Goals as goal

pub loop-place-preserved : goal.loop-place-preserved
loop-place-preserved c = record {
  read = rw (c.is_lower_digit.ensures, c.is_lower_digit-in-loop-place.ensures, c.push_reserved.ensures.items) (read_next c.args.text.now c.loop-place.place c.loop-place.are_digits c.loop-place.bytes.items c.digit_value.result c.digit_value-in-loop-place.result (omega (arith, c.loop-place-test.true))
      c.digit_value.ensures.decoded c.digit_value-in-loop-place.ensures.decoded c.loop-place.invariant.read);
  count = search rules;
  room = search rules;
}

pub returns-then-are_digits : goal.returns-then-are_digits
returns-then-are_digits c =
    let least = c.loop-place-test.false in
    let even = c.requires in
    read_whole c.args.text.now c.loop-place.place c.loop-place.are_digits c.loop-place.bytes.items (omega (arith, least, even)) c.loop-place.invariant.read even c.if-are_digits.true
