use Rattle.std.proofs.Common.{◌≡◌, ◌<◌, ◌^◌, drop}
use Rattle.text.specs.Text.{hex_digit, digits}
use Rattle.text.proofs.digits.hex_value.Given as goal

abbrev pub invariant-loop-byte : goal.invariant-loop-byte
invariant-loop-byte l = record {
  left : digits hex_digit 16 0 l.text ≡ digits hex_digit 16 l.value (drop l.byte-index l.text);
  small : l.value < 16 ^ l.byte-index;
}
