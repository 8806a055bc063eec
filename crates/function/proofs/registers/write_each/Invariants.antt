use Rattle.std.proofs.Common.{◌≡◌, ◌+◌, ◌≤◌, length, drop}
use Rattle.function.specs.Registers.{write_bytes}
use Rattle.function.proofs.registers.write_each.Given as goal

-- what is left to be written gives the whole
abbrev pub invariant-loop-i : goal.invariant-loop-i
invariant-loop-i l = record {
  whole : write_bytes l.page (l.first + l.i) (drop l.i l.bytes) ≡ write_bytes l.fn.page l.first l.bytes;
  size : length l.page ≡ 4096;
  inside : l.first + length l.bytes ≤ 4096;
}
