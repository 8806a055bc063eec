use Rattle.std.proofs.Common.{◌≡◌, take, Some}
use Rattle.domain.specs.Machine.{replay}
use Rattle.journal_text.specs.Steps.{entries_of}
use Rattle.journal_text.proofs.replaying.replay.Given as goal

-- the domain is what the lines so far leave
abbrev pub invariant-loop-line : goal.invariant-loop-line
invariant-loop-line l = record {
  share : (l.domain).share ≡ l.start;
  journal : (l.domain).journal ≡ entries_of (take l.line-index l.lines);
  state : replay l.start (entries_of (take l.line-index l.lines)) ≡ Some (l.domain).state;
}
