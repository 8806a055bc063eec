-- Why `replay` stops at a journal.
use Rattle.std.specs.Prelude.{◌≡◌, ℕ, List, Ok}
use Rattle.platform.specs.Share.{Share}
use Rattle.journal_text.specs.Reading.{reading}
use Rattle.journal_text.specs.declared.read.JournalLine.{JournalLine}
use Rattle.journal_text.specs.Steps.{IsFirstIllegalLine}
use Rattle.inputs.specs.Refusals.{IsNoJournal}
use Rattle.inputs.specs.declared.fault.Fault.{Fault}
use Rattle.inputs.specs.declared.fault.Fault.TheVariants as fault
use Rattle.commands.specs.Runs.{AreReplayFiles}

-- the file's text is refused as a journal of the domain, with the number of its first faulty line
pub record HasNoJournal (holds : List ℕ → List ℕ → Type 0) (layout_name journal_name : List ℕ) (number : ℕ) (f : Fault) : Type 0 where
  pub share : Share
  pub text : List ℕ
  pub files : AreReplayFiles holds layout_name journal_name number share text
  pub refused : IsNoJournal share.domain text f

-- the file has a journal of the domain, and the entry in the line that is named is the first that is illegal after those before it
pub record HasIllegalEntry (holds : List ℕ → List ℕ → Type 0) (layout_name journal_name : List ℕ) (number : ℕ) (f : Fault) : Type 0 where
  pub share : Share
  pub text : List ℕ
  pub files : AreReplayFiles holds layout_name journal_name number share text
  pub lines : List JournalLine
  pub journal : reading share.domain text ≡ Ok lines
  pub line : ℕ
  pub illegal : IsFirstIllegalLine share lines line
  pub named : f ≡ fault.IllegalEntry line
