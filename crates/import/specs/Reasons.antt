-- The words of the reasons for which a layout hasn't all of a dump.
use Rattle.std.specs.Prelude.{◌≡◌, ℕ, List, Option, Some, None, IfSome, codes}
use Rattle.std.specs.Fmt.{◌++?◌}
use Rattle.lspci.specs.declared.lines.Location.{Location}
use Rattle.lspci.specs.Lines.{location_text}
use Rattle.import.specs.declared.reason.MachineId.{MachineId}
use Rattle.import.specs.declared.reason.Reason.{Reason}
use Rattle.import.specs.declared.reason.Reason.TheVariants as reason
use Rattle.import.specs.declared.reason.Why.{Why}

abbrev pub machine_id : Location → MachineId
machine_id location = record { segment = location.segment; bits = location.id }

abbrev pub machine_id_text : MachineId → List ℕ
machine_id_text id = location_text (record { segment = id.segment; id = id.bits })

-- a rule of layouts has words of its own
abbrev pub reason_words : Reason → Option (List ℕ)
reason_words reason.Segment = Some (codes "it is of another PCI segment")
reason_words reason.OtherRoot = Some (codes "it stands on another root bus: ask for it by --root")
reason_words reason.Kind = Some (codes "it is no port of PCI Express and no endpoint, but, say, a bridge to conventional PCI")
reason_words reason.Conventional = Some (codes "it is below a bridge to conventional PCI")
reason_words reason.Virtual = Some (codes "it is a virtual function")
reason_words reason.Outside = Some (codes "it is outside of the tree that was asked for")
reason_words reason.Above = Some (codes "the ports of the layout stand below it")
reason_words reason.Integrated = Some (codes "it is a part of the root complex: no port stands above it")
reason_words reason.Unreached = Some (codes "no port of the layout leads to it")
reason_words reason.Function = Some (codes "a layout has function 0 alone")
reason_words reason.Buses = Some (codes "its buses have no room in a layout")
reason_words reason.Window = Some (codes "it has no window for memory below 4 GB")
reason_words reason.Page = Some (codes "none of its base address registers begins a page in the window of the port above")
reason_words (reason.Rule cause) = None

-- the rules of layouts are one reason
abbrev pub reason_number : Reason → ℕ
reason_number reason.Segment = 1
reason_number reason.OtherRoot = 2
reason_number reason.Kind = 3
reason_number reason.Conventional = 4
reason_number reason.Virtual = 5
reason_number reason.Outside = 6
reason_number reason.Above = 7
reason_number reason.Integrated = 8
reason_number reason.Unreached = 9
reason_number reason.Function = 10
reason_number reason.Buses = 11
reason_number reason.Window = 12
reason_number reason.Page = 13
reason_number (reason.Rule cause) = 14

abbrev pub words_behind : Option MachineId → Option (List ℕ) → Option (List ℕ)
words_behind None words = words
words_behind (Some port) words = Some (codes "the port above it, ") ++? Some (machine_id_text port) ++? Some (codes ", has no place: ") ++? words

-- the reason, and the port whose reason it is
abbrev pub why_words : Why → Option (List ℕ)
why_words why = words_behind why.port (reason_words why.reason)

-- these are the words of it, unless a rule is the reason
abbrev pub AreWordsOf : Why → List ℕ → Type 0
AreWordsOf why words = IfSome (why_words why) (λ own. words ≡ own)
