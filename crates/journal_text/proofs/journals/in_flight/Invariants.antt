use Rattle.std.proofs.Common.{◌≡◌, take}
use Rattle.journal_text.specs.Journals.{numbers_from}
use Rattle.journal_text.proofs.journals.in_flight.Given as goal

-- the numbers so far that are in flight
abbrev pub invariant-loop-number : goal.invariant-loop-number
invariant-loop-number l = numbers_from 0 (take l.number (l.domain).state.flight) ≡ l.numbers.items
