use Rattle.std.proofs.Common.{take}
use Rattle.std.specs.Io.KnownBytes.{Appends}
use Rattle.std.specs.List.{flat_map}
use Rattle.journal_text.specs.Notes.{number_word}
use Rattle.journal_text.proofs.flight.write_numbers.Given as goal

-- the numbers so far are written
abbrev pub invariant-loop-number : goal.invariant-loop-number
invariant-loop-number g l = Appends (g.W.Write.contents l.initial.out) (g.W.Write.contents l.out) (flat_map number_word (take l.number-index l.numbers))
