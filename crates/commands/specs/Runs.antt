-- What the commands of runs and of journals print.
use Rattle.std.specs.Prelude.{◌≡◌, ℕ, ◌+◌, ◌*◌, ◌≤◌, List, ◌++◌, length, Ok, Some}
use Rattle.platform.specs.Platform.{Platform}
use Rattle.layout.specs.Reading.{reading}
use Rattle.platform.specs.Share.{Share}
use Rattle.layout.specs.Views.{share_of_owner}
use Rattle.script.specs.declared.lines.Line.{Line}
use Rattle.domain.specs.Domains.{DomainView}
use Rattle.domain.specs.Machine.{replay}
use Rattle.domains.specs.Domains.{domain_at, place_of}
use Rattle.fabric_core.specs.World.{World}
use Rattle.inputs.specs.Inputs.{AreFiles, AreInputs}
use Rattle.commands.specs.Driving.{IsDriven}
use Rattle.commands.specs.Isolated.{IsIsolated}
use Rattle.commands.specs.Report.{IsReport}
use Rattle.commands.specs.Settled.{Settles}
use Rattle.reports.specs.Report.{IsPart}
use Rattle.journal_text.specs.Journals.{IsReadBack, journal_text}
use Rattle.journal_text.specs.Reading as journal
use Rattle.journal_text.specs.Steps.{entries_of}
use Rattle.journal_text.specs.declared.read.JournalLine.{JournalLine}

-- What `run` prints: the fabric of the one file is driven by the other, and of that the begins that were refused, as
-- they came, and then the report. Where the layout is guarded, no domain can tell that run from the one that is left when
-- all other domains' events are taken out. And where nothing moves any more at its end, no packet is left
pub record RunPrints (holds : List ℕ → List ℕ → Type 0) (layout_name script_name : List ℕ) (text : List ℕ) : Type 0 where
  pub platform : Platform
  pub lines : List Line
  pub files : AreFiles holds layout_name script_name platform lines
  pub world : World
  pub refused : List ℕ
  pub driven : IsDriven platform lines world refused
  pub isolated : IsIsolated platform lines world
  pub settled : Settles platform world
  pub report : List ℕ
  pub reports : IsReport world report
  pub all : text ≡ refused ++ report

-- the domain that has this share in the fabric of a platform that these lines drove; where the layout is guarded it can't
-- tell that run from the one that is left without the others
pub record IsDrivenDomain (platform : Platform) (lines : List Line) (share : Share) (domain : DomainView) : Type 0 where
  pub world : World
  pub refused : List ℕ
  pub driven : IsDriven platform lines world refused
  pub isolated : IsIsolated platform lines world
  pub there : domain_at world.agents.domains (place_of world.agents.domains share.domain) ≡ Some domain

-- a domain is the replay of its journal in such a run, from what the layout gives it
pub record IsReplayed (platform : Platform) (lines : List Line) (share : Share) (domain : DomainView) : Type 0 where
  pub ran : DomainView
  pub run : IsDrivenDomain platform lines share ran
  pub share_is : domain.share ≡ share
  pub journal : domain.journal ≡ ran.journal
  pub replays : replay share ran.journal ≡ Some domain.state

-- what `alone` prints: the part of the report that the domain of this number has, from the replay of its journal
pub record AlonePrints (holds : List ℕ → List ℕ → Type 0) (layout_name script_name : List ℕ) (number : ℕ) (text : List ℕ) : Type 0 where
  pub platform : Platform
  pub lines : List Line
  pub share : Share
  pub inputs : AreInputs holds layout_name script_name number platform lines share
  pub domain : DomainView
  pub replayed : IsReplayed platform lines share domain
  pub part : IsPart domain text

-- what `journal` prints: the journal that the domain of this number has in such a run; a text of at most 16,777,216 lines
-- is read as the same entries
pub record JournalPrints (holds : List ℕ → List ℕ → Type 0) (layout_name script_name : List ℕ) (number : ℕ) (text : List ℕ) : Type 0 where
  pub platform : Platform
  pub lines : List Line
  pub share : Share
  pub inputs : AreInputs holds layout_name script_name number platform lines share
  pub domain : DomainView
  pub run : IsDrivenDomain platform lines share domain
  pub journal : text ≡ journal_text domain.share domain.journal
  pub read_back : 2 * length domain.journal + 1 ≤ 16777216 → IsReadBack domain.share domain.journal

-- what `replay` is given: the files of these names have the text of a platform, which gives the domain of this number this
-- share, and this text
pub record AreReplayFiles (holds : List ℕ → List ℕ → Type 0) (layout_name journal_name : List ℕ) (number : ℕ) (share : Share) (text : List ℕ) : Type 0 where
  pub layout_text : List ℕ
  pub layout_file : holds layout_name layout_text
  pub platform : Platform
  pub layout : reading layout_text ≡ Ok platform
  pub owner : share_of_owner platform number ≡ Some share
  pub journal_file : holds journal_name text

-- what `replay` prints: the part of the report that the domain of this number has, from the replay of the journal in a file
pub record ReplayPrints (holds : List ℕ → List ℕ → Type 0) (layout_name journal_name : List ℕ) (number : ℕ) (text : List ℕ) : Type 0 where
  pub share : Share
  pub file_text : List ℕ
  pub files : AreReplayFiles holds layout_name journal_name number share file_text
  pub lines : List JournalLine
  pub journal : journal.reading share.domain file_text ≡ Ok lines
  pub domain : DomainView
  pub share_is : domain.share ≡ share
  pub entries : domain.journal ≡ entries_of lines
  pub replays : replay share (entries_of lines) ≡ Some domain.state
  pub part : IsPart domain text
