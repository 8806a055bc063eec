use Rattle.std.proofs.Common.{◌≡◌, ◌<◌, ◌^◌, drop}
use Rattle.text.specs.Text.{decimal_digit, digits}
use Rattle.text.proofs.digits.decimal_value.Given as goal

abbrev pub invariant-loop-byte : goal.invariant-loop-byte
invariant-loop-byte l = record {
  left : digits decimal_digit 10 0 l.text ≡ digits decimal_digit 10 l.value (drop l.byte-index l.text);
  small : l.value < 10 ^ l.byte-index;
}
