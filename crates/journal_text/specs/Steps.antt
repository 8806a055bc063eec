-- A journal entry by entry: what is written of each, and where a replay stops.
use Rattle.std.specs.Prelude.{◌≡◌, ℕ, ◌++◌, List, length, map, take, slice_get, Option, Some, None}
use Rattle.std.specs.Io.KnownBytes.{Appends}
use Rattle.platform.specs.Share.{Share}
use Rattle.domain.specs.declared.entry.Entry.{Entry}
use Rattle.domain.specs.Domains.{DomainView}
use Rattle.domain.specs.Machine.{change, replay}
use Rattle.domain_state.specs.State.{Alone, Change}
use Rattle.journal_text.specs.Journals.{made_text}
use Rattle.journal_text.specs.Legible.{IsLegible}
use Rattle.journal_text.specs.Words.{entry_line}
use Rattle.journal_text.specs.declared.read.JournalLine.{JournalLine}

-- the entry was legal, its numbers fit their types, and it was written with the packet that it made
pub record IsWritten (before after : Option (List ℕ)) (old : DomainView) (entry : Entry) (new : DomainView) : Type 0 where
  pub share : new.share ≡ old.share
  pub made : Change
  pub step : change old.share old.state entry ≡ Some made
  pub state : new.state ≡ made.state
  pub legible : IsLegible entry
  pub written : Appends before after (entry_line old.share.domain entry ++ made_text (length old.state.flight) made.emission)

-- the entries of a journal's lines
abbrev pub entries_of : List JournalLine → List Entry
entries_of lines = map (λ line. line.entry) lines

-- the entries before the line of this number are legal, and its own is not
pub record IsFirstIllegalLine (share : Share) (lines : List JournalLine) (number : ℕ) : Type 0 where
  pub index : ℕ
  pub line : JournalLine
  pub there : slice_get lines index ≡ Some line
  pub number_is : line.number ≡ number
  pub before : Alone
  pub legal : replay share (take index (entries_of lines)) ≡ Some before
  pub illegal : change share before line.entry ≡ None
