use Rattle.std.proofs.Common.{◌≡◌, ◌≤◌, length, map, take}
use Rattle.std.specs.Prelude.{vec_capacity}
use Rattle.thread_staff.proofs.shares.starts_of.Given as goal

abbrev pub invariant-loop-domain : goal.invariant-loop-domain
invariant-loop-domain l = record {
  items : l.starts.items ≡ map (λ d. d.share) (take l.domain-index l.domains);
  room : length l.domains ≤ vec_capacity l.starts;
}
