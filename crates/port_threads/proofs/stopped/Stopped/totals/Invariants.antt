use Rattle.std.proofs.Common.{◌≡◌, drop}
use Rattle.std.specs.Prelude.{◌==◌}
use Rattle.std.specs.List.{find}
use Rattle.port_threads.proofs.stopped.Stopped.totals.Given as goal

-- the domains so far have other numbers
abbrev pub invariant-loop-place : goal.invariant-loop-place
invariant-loop-place l = find (λ d. d.share.domain == l.number) (drop l.place l.self.domains.items) ≡ find (λ d. d.share.domain == l.number) l.self.domains.items
