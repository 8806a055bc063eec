use Rattle.std.proofs.Common.{◌≡◌}
use Rattle.thread_crew.proofs.threads.run.Given as goal

abbrev pub invariant-loop-turn : goal.invariant-loop-turn
invariant-loop-turn g l = (g.W.Work.kept l.worker ≡ g.W.Work.kept l.fn.worker) × (l.turn ≡ 0 → l.worker ≡ l.fn.worker)
