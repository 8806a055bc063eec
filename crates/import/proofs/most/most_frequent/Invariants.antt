use Rattle.std.proofs.Common.{◌≡◌, drop, None}
use Rattle.std.specs.List.{fold}
use Rattle.import.specs.Most.{most_of}
use Rattle.import.proofs.most.most_frequent.Given as goal

abbrev pub invariant-loop-part : goal.invariant-loop-part
invariant-loop-part l = fold (most_of l.left_out) l.best (drop l.part-index l.left_out) ≡ fold (most_of l.left_out) None l.left_out
