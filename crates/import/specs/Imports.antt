-- The layout of a dump.
use Rattle.std.specs.Prelude.{◌≡◌, ◌⊎◌, ℕ, ◌==◌, List, [], ◌∷◌, length, Option, Some, None, option_and_then, option_map, unwrap_or, Result, Ok, Err, MatchResult, if◌then◌else◌}
use Rattle.std.specs.List.{fold}
use Rattle.layout_line.specs.declared.lines.EgressText.{EgressText}
use Rattle.lspci.specs.declared.lines.Location.{Location}
use Rattle.lspci.specs.Dumps.{DumpText}
use Rattle.import.specs.declared.fault.ImportFault.{ImportFault}
use Rattle.import.specs.declared.fault.ImportFault.TheVariants as fault
use Rattle.import.specs.declared.owners.Owner.{Owner}
use Rattle.import.specs.declared.reason.LeftOut.{LeftOut}
use Rattle.import.specs.declared.tree.Tree.{Tree}
use Rattle.import.specs.DeviceViews.{Imported}
use Rattle.import.specs.Devices.{no_devices, with_device, with_vector}
use Rattle.import.specs.Egress.{vectors_of}
use Rattle.import.specs.Most.{most_frequent}
use Rattle.import.specs.Places.{left_out_at}
use Rattle.import.specs.Reasons.{machine_id}
use Rattle.import.specs.Told.{IsTold}
use Rattle.import.specs.Refusals.{is_hidden, or_else, refusal}
use Rattle.import.specs.Trees.{tree_of}

-- one device after another, by the text of the dump and what it is, in a layout with these vectors
unfoldable pub made_with : List ℕ → DumpText → Tree → List Owner → List EgressText → Imported
made_with text dump tree owners vectors = fold (with_device text dump tree owners vectors) (no_devices vectors) dump.devices

-- with these vectors said, unless a rule of layouts is against one of them
abbrev pub with_vectors : List EgressText → Imported → Option Imported
with_vectors [] made = Some made
with_vectors (vector ∷ rest) made = option_and_then (with_vectors rest) (with_vector vector made)

abbrev pub by_vectors : List ℕ → DumpText → Tree → List Owner → Imported → List EgressText → Imported
by_vectors text dump tree owners first vectors =
    if length vectors == 0 then first else unwrap_or (with_vectors vectors (made_with text dump tree owners vectors)) first

-- in a layout that says the vectors that it can, or none
abbrev pub imported : List ℕ → DumpText → Tree → List Owner → Imported
imported text dump tree owners =
    by_vectors text dump tree owners (made_with text dump tree owners []) (vectors_of dump tree (made_with text dump tree owners []))

-- ---- why the layout isn't given

abbrev pub unplaced_at : List LeftOut → Owner → Option ImportFault
unplaced_at left_out owner = option_map (λ part. fault.Unplaced (machine_id owner.location) part.why) (left_out_at left_out owner.location)

-- the first device of the list that has no place
abbrev pub unplaced : List LeftOut → List Owner → Option ImportFault
unplaced left_out [] = None
unplaced left_out (owner ∷ rest) = or_else (unplaced_at left_out owner) (unplaced left_out rest)

abbrev pub empty_fault : Option LeftOut → ImportFault
empty_fault None = fault.NoEndpoint
empty_fault (Some part) = fault.NoPlace part.why

-- it has no function, and this is the most frequent reason
abbrev pub no_function : Imported → Option ImportFault
no_function made = if length made.layout.platform.functions == 0 then Some (empty_fault (most_frequent made.left_out)) else None

abbrev pub place_refusal : List Owner → Imported → Option ImportFault
place_refusal owners made = or_else (unplaced made.left_out owners) (no_function made)

abbrev pub unless_refused : Option ImportFault → Imported → Result Imported ImportFault
unless_refused None made = Ok made
unless_refused (Some refused) made = Err refused

abbrev pub placed : List Owner → Imported → Result Imported ImportFault
placed owners made = unless_refused (place_refusal owners made) made

-- ---- all in all

abbrev pub if_fitting : List ℕ → DumpText → Tree → List Owner → Option ImportFault → Result Imported ImportFault
if_fitting text dump tree owners None = placed owners (imported text dump tree owners)
if_fitting text dump tree owners (Some refused) = Err refused

abbrev pub import_below : List ℕ → DumpText → List Owner → Result Tree ImportFault → Result Imported ImportFault
import_below text dump owners (Err refused) = Err refused
import_below text dump owners (Ok tree) = if_fitting text dump tree owners (refusal dump tree owners)

-- the layout of what is below the root port at this place, or below all of bus 00, or why there is none
abbrev pub import_of : List ℕ → DumpText → Option Location → List Owner → Result Imported ImportFault
import_of text dump root owners = if is_hidden dump then Err fault.Unprivileged else import_below text dump owners (tree_of dump root)

-- this is made: what is expected, with comments behind it of what it hasn't
abbrev pub IsMade : List ℕ → Result Imported ImportFault → Imported → Type 0
IsMade text expected made = (devices : Imported) × (expected ≡ Ok devices) × IsTold text devices made

-- an answer is that, or memory was refused
abbrev pub IsAnswer : List ℕ → Result Imported ImportFault → Result Imported ImportFault → Type 0
IsAnswer text expected answer = MatchResult answer (IsMade text expected) (λ refused. (refused ≡ fault.NoMemory) ⊎ (expected ≡ Err refused))
