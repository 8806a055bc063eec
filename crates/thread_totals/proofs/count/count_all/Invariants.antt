use Rattle.std.proofs.Common.{◌≡◌, map, take}
use Rattle.std.specs.Prelude.{◌↔◌, IsTrue}
use Rattle.thread_totals.specs.Balance.{AreBalanced}
use Rattle.thread_totals.specs.Counts.{totals_of}
use Rattle.thread_totals.specs.Standing.{frames_left}
use Rattle.thread_totals.proofs.count.count_all.Given as goal

abbrev pub invariant-loop-domain : goal.invariant-loop-domain
invariant-loop-domain l = (l.totals.items ≡ map (totals_of (frames_left l.remains l.links l.pairs) l.remains) (take l.domain-index l.domains)) × (IsTrue l.is_balanced ↔ AreBalanced (frames_left l.remains l.links l.pairs) l.remains (take l.domain-index l.domains))
