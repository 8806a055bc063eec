-- Counts that are added one after the other.
use Rattle.std.proofs.Common.{◌≡◌, ◌++◌}
use Rattle.std.proofs.lemmas.List.Sums.{fold-append}
use Rattle.threads_command.specs.Refusals.{Counts, all_added, with_more}

pub added_append : (counts first rest : Counts) → all_added counts (first ++ rest) ≡ all_added (all_added counts first) rest
added_append counts first rest = fold-append with_more counts first rest
