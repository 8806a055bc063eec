use Rattle.std.proofs.Common.{◌≡◌, take, Some}
use Rattle.domain.specs.Machine.{replay}
use Rattle.domain.proofs.domain.Domain.replay.Given as goal

-- the domain is what the entries so far leave
abbrev pub invariant-loop-i : goal.invariant-loop-i
invariant-loop-i l = record {
  share : (l.domain).share ≡ l.start;
  journal : (l.domain).journal ≡ take l.i l.entries;
  state : replay l.start (take l.i l.entries) ≡ Some (l.domain).state;
}
