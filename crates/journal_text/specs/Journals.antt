-- The text of a whole journal: each entry, behind it the comment on the packet that it made, and at the end
-- what is in flight.
use Rattle.std.specs.Prelude.{◌≡◌, ℕ, ◌+◌, ◌++◌, List, [], ◌∷◌, length, map, Option, Some, None, Ok}
use Rattle.std.specs.Option.{option_map_or}
use Rattle.platform.specs.Share.{Share}
use Rattle.request_handling.specs.Emissions.{Emission}
use Rattle.domain_state.specs.State.{Alone, start_state}
use Rattle.domain.specs.Machine.{change}
use Rattle.domain.specs.declared.entry.Entry.{Entry}
use Rattle.journal_text.specs.Notes.{in_flight_line, note_line}
use Rattle.journal_text.specs.Reading.{reading}
use Rattle.journal_text.specs.Words.{entry_line}
use Rattle.journal_text.specs.declared.read.JournalLine.{JournalLine}

-- the numbers that are in flight, from this one on
abbrev pub numbers_from : ℕ → List (Option Emission) → List ℕ
numbers_from n [] = []
numbers_from n (None ∷ flight) = numbers_from (n + 1) flight
numbers_from n (Some e ∷ flight) = n ∷ numbers_from (n + 1) flight

abbrev pub numbers_in_flight : Alone → List ℕ
numbers_in_flight s = numbers_from 0 s.flight

-- the comment on the packet that an entry made, if it made one
abbrev pub made_text : ℕ → Option Emission → List ℕ
made_text number made = option_map_or (λ e. note_line number e.bytes) made []

-- the text of these entries from this state on, up to the first illegal one
abbrev pub entry_lines : Share → Alone → List Entry → List ℕ
entry_lines share s [] = in_flight_line (numbers_in_flight s)
entry_lines share s (entry ∷ entries) =
    entry_line share.domain entry
    ++ option_map_or (λ c. made_text (length s.flight) c.emission ++ entry_lines share c.state entries) (change share s entry) []

abbrev pub journal_text : Share → List Entry → List ℕ
journal_text share journal = entry_lines share (start_state share) journal

-- the text of a journal is read, and its entries are the journal
pub record IsReadBack (share : Share) (journal : List Entry) : Type 0 where
  pub lines : List JournalLine
  pub read : reading share.domain (journal_text share journal) ≡ Ok lines
  pub entries : map (λ line. line.entry) lines ≡ journal
