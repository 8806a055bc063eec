-- A layout with one device more, which gives it a line or is left out.
use Rattle.std.specs.Prelude.{ℕ, true, List, [], ◌∷◌, ◌++◌, length, Option, Some, None, Result, Ok, Err}
use Rattle.fab_types.specs.declared.faults.layout.LayoutCause.{LayoutCause}
use Rattle.layout.specs.Rules.{fault_of}
use Rattle.layout_line.specs.declared.lines.EgressText.{EgressText}
use Rattle.layout_line.specs.declared.lines.FunctionText.{FunctionText}
use Rattle.layout_line.specs.declared.lines.LayoutLine.{LayoutLine}
use Rattle.layout_line.specs.declared.lines.LayoutLine.TheVariants as line
use Rattle.layout_line.specs.declared.lines.TargetText.TheVariants as target
use Rattle.lspci.specs.declared.dump.Device.{Device}
use Rattle.lspci.specs.Dumps.{DumpText}
use Rattle.platform.specs.declared.parts.LayoutVersion.{LayoutVersion}
use Rattle.platform.specs.declared.parts.LayoutVersion.TheVariants.{One, Two}
use Rattle.import.specs.declared.owners.Owner.{Owner}
use Rattle.import.specs.declared.reason.LeftOut.{LeftOut}
use Rattle.import.specs.declared.reason.Reason.{Reason}
use Rattle.import.specs.declared.reason.Reason.TheVariants as reason
use Rattle.import.specs.declared.reason.Why.{Why}
use Rattle.import.specs.declared.tree.Tree.{Tree}
use Rattle.import.specs.DeviceViews.{Imported}
use Rattle.text_writers.specs.Drafts.{start, start_text, unless_faulty, with_line}
use Rattle.import.specs.Names.{name_of}
use Rattle.import.specs.Places.{own, why_not}
use Rattle.import.specs.Roles.{is_endpoint}
use Rattle.import.specs.Statements.{statement_of}
use Rattle.import.specs.Told.{with_name}
use Rattle.import.specs.Trees.{space_of}

-- vectors can be said from version 2 on
abbrev pub version_of : List EgressText → LayoutVersion
version_of [] = One
version_of (vector ∷ vectors) = Two

abbrev pub no_devices : List EgressText → Imported
no_devices vectors = record { layout = record { platform = start (version_of vectors); text = start_text (version_of vectors) }; left_out = [] }

abbrev pub left_out : DumpText → Device → Why → LeftOut
left_out dump device why = record { line = device.line; location = device.location; is_endpoint = is_endpoint (space_of dump device); why = why }

abbrev pub leaving_out : DumpText → Imported → Device → Why → Imported
leaving_out dump so_far device why = record { layout = so_far.layout; left_out = so_far.left_out ++ left_out dump device why ∷ [] }

-- for a reason of its own
abbrev pub by_itself : Reason → Why
by_itself reason = record { port = None; reason = reason }

-- page 1 of a function is a frame of its own: that of the number of the functions so far
abbrev pub first_map : FunctionText → ℕ → LayoutLine
first_map function count = line.Map (record { requester = function.id; page = 1; target = target.Frame count; rights = record { read = true; write = true } })

abbrev pub with_map : FunctionText → Imported → Imported
with_map function so_far = record {
  layout = with_line so_far.layout (first_map function (length so_far.layout.platform.functions));
  left_out = so_far.left_out;
}

-- what goes with a line
abbrev pub with_more : LayoutLine → Imported → Imported
with_more (line.Function function) so_far = with_map function so_far
with_more _ so_far = so_far

-- by a dump and its text
abbrev pub unless_against : List ℕ → DumpText → List EgressText → Device → LayoutLine → Imported → Option LayoutCause → Imported
unless_against text dump vectors device line so_far None =
    with_more line (record { layout = with_name (space_of dump device) vectors line (name_of text device.line device.location) (unless_faulty so_far.layout line None); left_out = so_far.left_out })
unless_against text dump vectors device line so_far (Some cause) = leaving_out dump so_far device (by_itself (reason.Rule cause))

-- a line is added, unless a rule of layouts is against it
unfoldable pub with_statement : List ℕ → DumpText → List EgressText → Device → LayoutLine → Imported → Imported
with_statement text dump vectors device line so_far = unless_against text dump vectors device line so_far (fault_of so_far.layout.platform line)

abbrev pub with_result : List ℕ → DumpText → List EgressText → Device → Imported → Result LayoutLine Reason → Imported
with_result text dump vectors device so_far (Ok line) = with_statement text dump vectors device line so_far
with_result text dump vectors device so_far (Err reason) = leaving_out dump so_far device (by_itself reason)

-- by its own line
abbrev pub with_line_of : List ℕ → DumpText → Tree → List Owner → List EgressText → Imported → Device → Imported
with_line_of text dump tree owners vectors so_far device = with_result text dump vectors device so_far (statement_of dump tree owners vectors so_far.layout.platform.ports device)

abbrev pub unless_blocked : List ℕ → DumpText → Tree → List Owner → List EgressText → Imported → Device → Option Why → Imported
unless_blocked text dump tree owners vectors so_far device None = with_line_of text dump tree owners vectors so_far device
unless_blocked text dump tree owners vectors so_far device (Some why) = leaving_out dump so_far device why

-- a device gives the layout its line, or is left out
unfoldable pub with_device : List ℕ → DumpText → Tree → List Owner → List EgressText → Imported → Device → Imported
with_device text dump tree owners vectors so_far device = unless_blocked text dump tree owners vectors so_far device (why_not dump tree so_far.left_out device)

-- ---- vectors

abbrev pub unless_refused : Imported → EgressText → Option LayoutCause → Option Imported
unless_refused so_far vector None = Some (record { layout = unless_faulty so_far.layout (line.Egress vector) None; left_out = so_far.left_out })
unless_refused so_far vector (Some cause) = None

-- with one vector more, unless a rule of layouts is against it
abbrev pub with_vector : EgressText → Imported → Option Imported
with_vector vector so_far = unless_refused so_far vector (fault_of so_far.layout.platform (line.Egress vector))
