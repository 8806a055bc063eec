use Rattle.std.proofs.Common.{◌≡◌, ◌+◌, ◌≤◌, length}
use Rattle.std.specs.List.{AllByRecursion}
use Rattle.tlp_view.specs.Runs.{runs}
use Rattle.function.specs.Registers.{write_page}
use Rattle.function.proofs.registers.write_page.Given as goal

-- what is left to be written gives the whole
abbrev pub invariant-loop-offset : goal.invariant-loop-offset
invariant-loop-offset l = record {
  whole : write_page l.page l.first l.offset-iterator ≡ write_page l.fn.page l.first (runs l.request);
  within : AllByRecursion (λ run. run.0 + length run.1 ≤ length (l.request).payload) l.offset-iterator;
  size : length l.page ≡ 4096;
  inside : l.first + length (l.request).payload ≤ 4096;
}
