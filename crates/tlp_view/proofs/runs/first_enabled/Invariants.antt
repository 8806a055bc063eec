use Rattle.std.proofs.Common.{◌-◌, ◌≡◌, ◌<◌, ◌≤◌, ℕ, false}
use Rattle.tlp_view.specs.Runs.{is_enabled}
use Rattle.tlp_view.proofs.runs.first_enabled.Given as goal

abbrev pub invariant-loop-i : goal.invariant-loop-i
invariant-loop-i l = record {
  low : l.at ≤ l.i;
  high : l.i ≤ l.count;
  passed : (k : ℕ) → l.at ≤ k → k < l.i → is_enabled l.enables l.count k ≡ false;
}

abbrev pub decreases-loop-i : goal.decreases-loop-i
decreases-loop-i l = l.count - l.i
