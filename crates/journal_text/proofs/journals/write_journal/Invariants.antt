use Rattle.std.proofs.Common.{drop, take}
use Rattle.journal_text.specs.Journals.{journal_text}
use Rattle.journal_text.proofs.JournalsWritten.{IsSoFar}
use Rattle.journal_text.proofs.journals.write_journal.Given as goal

-- the entries so far are written
abbrev pub invariant-loop-entry : goal.invariant-loop-entry
invariant-loop-entry g l = IsSoFar (g.W.Write.contents l.initial.out) (g.W.Write.contents l.out) (l.domain).share (journal_text (l.domain).share (l.domain).journal) l.machine (take l.entry-index l.entry-items) (drop l.entry-index l.entry-items)
