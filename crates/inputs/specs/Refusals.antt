-- Why a command stops before its work: a file cannot be read or is faulty, or a domain owns no port.
use Rattle.std.specs.Prelude.{◌≡◌, ◌⊎◌, ℕ, List, Err, None, Ok}
use Rattle.std.specs.Str.{IsUtf8}
use Rattle.fab_types.specs.declared.faults.layout.LayoutFault.{LayoutFault}
use Rattle.fab_types.specs.declared.faults.script.ScriptFault.{ScriptFault}
use Rattle.platform.specs.Platform.{Platform}
use Rattle.layout.specs.Reading as layouts
use Rattle.layout.specs.Views.{share_of_owner}
use Rattle.script.specs.Reading as scripts
use Rattle.journal_text.specs.Reading as journals
use Rattle.inputs.specs.declared.fault.Fault.{Fault}
use Rattle.inputs.specs.declared.fault.Fault.TheVariants as fault

-- a file gives no text where it may be withheld, or may hold bytes that are no UTF-8
abbrev pub HasNoText : Type 0 → (List ℕ → Type 0) → Type 0
HasNoText withheld holds = withheld ⊎ ((bytes : List ℕ) × holds bytes × (IsUtf8 bytes → ⊥))

-- a text that is refused as a layout, with the fault of its first faulty line
abbrev pub IsFaultyLayout : List ℕ → Fault → Type 0
IsFaultyLayout text f = (refused : LayoutFault) × (layouts.reading text ≡ Err refused) × (f ≡ fault.Layout refused)

-- a file that may hold such a text
abbrev pub IsNoLayout : (List ℕ → Type 0) → Fault → Type 0
IsNoLayout holds f = (text : List ℕ) × (refused : LayoutFault) × holds text × (layouts.reading text ≡ Err refused) × (f ≡ fault.Layout refused)

-- a file that may hold a text that is refused as a script, with the number of its first faulty line
abbrev pub IsNoScript : (List ℕ → Type 0) → Fault → Type 0
IsNoScript holds f = (text : List ℕ) × (refused : ScriptFault) × holds text × (scripts.reading text ≡ Err refused) × (f ≡ fault.ScriptLine refused.line)

-- a text that is refused as a journal of this domain, with the number of its first faulty line
abbrev pub IsNoJournal : ℕ → List ℕ → Fault → Type 0
IsNoJournal domain text f = (refused : ScriptFault) × (journals.reading domain text ≡ Err refused) × (f ≡ fault.JournalLine refused.line)

-- a file that may hold a platform no port of which is of the domain of this number
abbrev pub IsNoOwner : (List ℕ → Type 0) → ℕ → Fault → Type 0
IsNoOwner holds number f = (text : List ℕ) × (platform : Platform) × holds text × (layouts.reading text ≡ Ok platform) × (share_of_owner platform number ≡ None) × (f ≡ fault.NoDomain number)
