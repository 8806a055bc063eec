use Rattle.std.proofs.Common.{◌≡◌, ◌≤◌, length}
use Rattle.std.specs.Prelude.{◌/◌, vec_capacity, vec_len}
use Rattle.text.proofs.Decoding.{AreRead}
use Rattle.text.proofs.bytes.decoded.Given as goal

-- so many pairs were read, each into its byte, and there is room for all
abbrev pub invariant-loop-place : goal.invariant-loop-place
invariant-loop-place l = record {
  read : AreRead l.text l.place l.are_digits l.bytes.items;
  count : vec_len l.bytes ≡ l.place;
  room : length l.text / 2 ≤ vec_capacity l.bytes;
}
