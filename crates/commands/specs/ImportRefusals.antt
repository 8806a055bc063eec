-- Why the command `import` stops.
use Rattle.std.specs.Prelude.{◌≡◌, ◌⊎◌, ℕ, List, Ok, Err, Option, Some, None}
use denote.Bor.{Bor}
use Rattle.fab_types.specs.declared.faults.script.ScriptFault.{ScriptFault}
use Rattle.inputs.specs.declared.fault.Fault.{Fault}
use Rattle.inputs.specs.declared.fault.Fault.TheVariants as fault
use Rattle.inputs.specs.Endings.{fault_of_import}
use Rattle.inputs.specs.Refusals.{HasNoText}
use Rattle.lspci.specs.declared.fault.DumpFault.{DumpFault}
use Rattle.lspci.specs.declared.lines.Location.{Location}
use Rattle.lspci.specs.Dumps.{DumpText}
use Rattle.lspci.specs.Reading as dumps
use Rattle.import.specs.declared.fault.ImportFault.{ImportFault}
use Rattle.import.specs.declared.owners.Owner.{Owner}
use Rattle.import.specs.Imports.{import_of}
use Rattle.import.specs.Owners as lists
use Rattle.commands.specs.Imported.{AreOwners}

-- a text that is refused as a dump, with the fault of its first faulty line
abbrev pub IsFaultyDump : List ℕ → Fault → Type 0
IsFaultyDump text f = (refused : DumpFault) × (dumps.reading text ≡ Err refused) × (f ≡ fault.Dump refused)

abbrev pub IsNoDump : (List ℕ → Type 0) → Fault → Type 0
IsNoDump holds f = (text : List ℕ) × holds text × IsFaultyDump text f

-- a text that is refused as a list of owners, with the number of its first faulty line
abbrev pub IsFaultyList : List ℕ → Fault → Type 0
IsFaultyList text f = (refused : ScriptFault) × (lists.reading text ≡ Err refused) × (f ≡ fault.OwnersLine refused.line)

-- there is no layout of the dump, which has this text
abbrev pub IsNoImport : List ℕ → DumpText → Option Location → List Owner → Fault → Type 0
IsNoImport text dump root owners f = (reason : ImportFault) × (import_of text dump root owners ≡ Err reason) × (f ≡ fault_of_import reason)

-- there is no layout of a dump and a list that the files of these names may have
pub record IsNoLayoutOfDump (holds : List ℕ → List ℕ → Type 0) (dump_name : List ℕ) (owners_name : Option (List ℕ)) (root : Option Location) (f : Fault) : Type 0 where
  pub dump_text : List ℕ
  pub dump_file : holds dump_name dump_text
  pub dump : DumpText
  pub is_dump : dumps.reading dump_text ≡ Ok dump
  pub list : List Owner
  pub owners : AreOwners holds owners_name list
  pub refused : IsNoImport dump_text dump root list f

-- the file of this name has no text, or one that is refused as a list of owners
abbrev pub IsNoList : (List ℕ → Type 0) → (List ℕ → List ℕ → Type 0) → Option (Bor (List ℕ)) → Fault → Type 0
IsNoList withholds holds None f = ⊥
IsNoList withholds holds (Some name) f =
    ((f ≡ fault.Unreadable name) × HasNoText (withholds name.now) (holds name.now)) ⊎ ((text : List ℕ) × holds name.now text × IsFaultyList text f)
