use Rattle.std.proofs.Common.{◌≡◌, ℕ, ◌*◌, ◌<◌, length, get_or, Some}
use Rattle.lspci.specs.Lines.{byte_at}
use Rattle.lspci.proofs.lines.row_bytes.Given as goal

abbrev pub invariant-loop-place : goal.invariant-loop-place
invariant-loop-place l = record {
  whole : length l.bytes ≡ 16;
  read : (k : ℕ) → k < l.place → Some (get_or l.bytes k 0) ≡ byte_at l.text (3 * k);
}
