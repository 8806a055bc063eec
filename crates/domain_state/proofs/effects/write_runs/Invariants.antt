use Rattle.std.proofs.Common.{◌≡◌, ◌+◌, ◌≤◌, length}
use Rattle.std.specs.List.{AllByRecursion}
use Rattle.tlp_view.specs.Runs.{runs}
use Rattle.domain_state.proofs.PageFits.{IsWithin}
use Rattle.domain_state.specs.Ends.{stored}
use Rattle.domain_state.proofs.effects.write_runs.Given as goal

-- what is left to be stored gives the whole
abbrev pub invariant-loop-offset : goal.invariant-loop-offset
invariant-loop-offset l = record {
  whole : stored l.memory l.frame l.first l.offset-iterator ≡ stored l.fn.memory l.frame l.first (runs l.view);
  within : AllByRecursion (IsWithin 0 (length (l.view).payload)) l.offset-iterator;
  fits : l.first + length (l.view).payload ≤ 4096;
}
