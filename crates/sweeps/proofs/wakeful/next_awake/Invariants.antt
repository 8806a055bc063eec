use Rattle.std.proofs.Common.{◌-◌, ◌≡◌, ◌<◌, ◌≤◌, ℕ, Some, false, length}
use Rattle.std.specs.Prelude.{slice_get}
use Rattle.sweeps.proofs.wakeful.next_awake.Given as goal

abbrev pub invariant-loop-place : goal.invariant-loop-place
invariant-loop-place l = record {
  low : l.from ≤ l.place;
  high : l.place ≤ length l.flags;
  asleep : (k : ℕ) → l.from ≤ k → k < l.place → slice_get l.flags k ≡ Some false;
}

abbrev pub decreases-loop-place : goal.decreases-loop-place
decreases-loop-place l = length l.flags - l.place
