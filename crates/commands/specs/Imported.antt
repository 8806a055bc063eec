-- What the command `import` prints.
use Rattle.std.specs.Prelude.{◌≡◌, ℕ, ◌==◌, Bool, ◌||◌, List, [], length, Ok, Option, Some, None, if◌then◌else◌}
use Rattle.layout.specs.Reading.{reading}
use Rattle.lspci.specs.declared.lines.Location.{Location}
use Rattle.lspci.specs.Dumps.{DumpText}
use Rattle.lspci.specs.Reading as dumps
use Rattle.import.specs.declared.owners.Owner.{Owner}
use Rattle.import.specs.DeviceViews.{Imported as Layout}
use Rattle.import.specs.Imports.{IsMade, import_of}
use Rattle.import.specs.Most.{endpoints_out}
use Rattle.import.specs.Owners as lists
use Rattle.commands.specs.declared.import_layout.Imported.{Imported}
use Rattle.inputs.specs.declared.fault.ExitStatus.{ExitStatus}
use Rattle.inputs.specs.declared.fault.ExitStatus.TheVariants as status

-- the file of this name has this list of owners; without a name it is empty
abbrev pub AreOwners : (List ℕ → List ℕ → Type 0) → Option (List ℕ) → List Owner → Type 0
AreOwners holds None owners = owners ≡ []
AreOwners holds (Some name) owners = (text : List ℕ) × holds name text × (lists.reading text ≡ Ok owners)

-- how the program ends: by itself where no endpoint is missing, or where that is meant so
abbrev pub status_after : Bool → Layout → ExitStatus
status_after is_partial_meant made = if is_partial_meant || (endpoints_out made.left_out == 0) then status.Done else status.Partial

-- The file of this name has the text of a dump, and this is the text of the layout that the dump and the owners have below the
-- root port: behind each line of a device a comment says which one it is, and behind all comments say what the layout hasn't.
-- So much it has, and so the program ends
pub record ImportPrints (holds : List ℕ → List ℕ → Type 0) (dump_name : List ℕ) (owners_name : Option (List ℕ)) (root : Option Location) (is_partial_meant : Bool) (imported : Imported) (text : List ℕ) : Type 0 where
  pub dump_text : List ℕ
  pub dump_file : holds dump_name dump_text
  pub dump : DumpText
  pub is_dump : dumps.reading dump_text ≡ Ok dump
  pub list : List Owner
  pub owners : AreOwners holds owners_name list
  pub made : Layout
  pub layout : IsMade dump_text (import_of dump_text dump root list) made
  pub printed : text ≡ made.layout.text
  pub reads : reading text ≡ Ok made.layout.platform
  pub ends : imported.status ≡ status_after is_partial_meant made
  pub functions : imported.functions ≡ length made.layout.platform.functions
  pub endpoints_out : imported.endpoints_out ≡ endpoints_out made.left_out
  pub passed : imported.passed ≡ dump.passed
