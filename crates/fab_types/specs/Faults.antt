-- The number and the name of each refusal, as reports print them.
use Rattle.std.specs.Prelude.{ℕ, List, codes}
use Rattle.fab_types.specs.declared.faults.malformed.Malformed.{Malformed}
use Rattle.fab_types.specs.declared.faults.malformed.Malformed.TheVariants as malformed
use Rattle.fab_types.specs.declared.faults.begin.SubmitFault.{SubmitFault}
use Rattle.fab_types.specs.declared.faults.begin.SubmitFault.TheVariants as submit_fault
use Rattle.fab_types.specs.declared.faults.begin.TickFault.{TickFault}
use Rattle.fab_types.specs.declared.faults.begin.TickFault.TheVariants as tick_fault
use Rattle.fab_types.specs.declared.faults.begin.MmioFault.{MmioFault}
use Rattle.fab_types.specs.declared.faults.begin.MmioFault.TheVariants as mmio_fault
use Rattle.fab_types.specs.declared.faults.begin.BeginFault.{BeginFault}
use Rattle.fab_types.specs.declared.faults.begin.BeginFault.TheVariants as begin_fault
use Rattle.fab_types.specs.declared.faults.replay.ReplayFault.{ReplayFault}
use Rattle.fab_types.specs.declared.faults.replay.ReplayFault.TheVariants as replay_fault
use Rattle.fab_types.specs.declared.faults.runs.CompareFault.{CompareFault}
use Rattle.fab_types.specs.declared.faults.runs.CompareFault.TheVariants as compare_fault
use Rattle.fab_types.specs.declared.faults.runs.PlacesFault.{PlacesFault}
use Rattle.fab_types.specs.declared.faults.runs.PlacesFault.TheVariants as places_fault
use Rattle.fab_types.specs.declared.faults.running.StartFault.{StartFault}
use Rattle.fab_types.specs.declared.faults.running.StartFault.TheVariants as start_fault
use Rattle.fab_types.specs.declared.faults.running.StopFault.{StopFault}
use Rattle.fab_types.specs.declared.faults.running.StopFault.TheVariants as stop_fault
use Rattle.fab_types.specs.declared.faults.injector.InjectorFault.{InjectorFault}
use Rattle.fab_types.specs.declared.faults.injector.InjectorFault.TheVariants as injector_fault
use Rattle.fab_types.specs.declared.faults.layout.LayoutCause.{LayoutCause}
use Rattle.fab_types.specs.declared.faults.layout.LayoutCause.TheVariants as layout_cause
use Rattle.fab_types.specs.declared.faults.script.ScriptCause.{ScriptCause}
use Rattle.fab_types.specs.declared.faults.script.ScriptCause.TheVariants as script_cause

abbrev pub malformed_number : Malformed → ℕ
malformed_number malformed.Short = 1
malformed_number malformed.Kind = 2
malformed_number malformed.Size = 3
malformed_number malformed.Enables = 4
malformed_number malformed.Crosses = 5
malformed_number malformed.HighForm = 6
malformed_number malformed.Field = 7

abbrev pub malformed_name : Malformed → List ℕ
malformed_name malformed.Short = codes "Short"
malformed_name malformed.Kind = codes "Kind"
malformed_name malformed.Size = codes "Size"
malformed_name malformed.Enables = codes "Enables"
malformed_name malformed.Crosses = codes "Crosses"
malformed_name malformed.HighForm = codes "HighForm"
malformed_name malformed.Field = codes "Field"

abbrev pub submit_fault_number : SubmitFault → ℕ
submit_fault_number submit_fault.TooLong = 1
submit_fault_number submit_fault.Completion = 2
submit_fault_number submit_fault.TagBusy = 3
submit_fault_number submit_fault.BudgetSpent = 4
submit_fault_number submit_fault.NoFunction = 5
submit_fault_number submit_fault.NoMemory = 6

abbrev pub submit_fault_name : SubmitFault → List ℕ
submit_fault_name submit_fault.TooLong = codes "TooLong"
submit_fault_name submit_fault.Completion = codes "Completion"
submit_fault_name submit_fault.TagBusy = codes "TagBusy"
submit_fault_name submit_fault.BudgetSpent = codes "BudgetSpent"
submit_fault_name submit_fault.NoFunction = codes "NoFunction"
submit_fault_name submit_fault.NoMemory = codes "NoMemory"

abbrev pub tick_fault_number : TickFault → ℕ
tick_fault_number tick_fault.NoFunction = 1
tick_fault_number tick_fault.BudgetSpent = 2
tick_fault_number tick_fault.NoMemory = 3

abbrev pub tick_fault_name : TickFault → List ℕ
tick_fault_name tick_fault.NoFunction = codes "NoFunction"
tick_fault_name tick_fault.BudgetSpent = codes "BudgetSpent"
tick_fault_name tick_fault.NoMemory = codes "NoMemory"

abbrev pub mmio_fault_number : MmioFault → ℕ
mmio_fault_number mmio_fault.NotYours = 1
mmio_fault_number mmio_fault.Range = 2
mmio_fault_number mmio_fault.NoTag = 3
mmio_fault_number mmio_fault.BudgetSpent = 4
mmio_fault_number mmio_fault.NoMemory = 5

abbrev pub mmio_fault_name : MmioFault → List ℕ
mmio_fault_name mmio_fault.NotYours = codes "NotYours"
mmio_fault_name mmio_fault.Range = codes "Range"
mmio_fault_name mmio_fault.NoTag = codes "NoTag"
mmio_fault_name mmio_fault.BudgetSpent = codes "BudgetSpent"
mmio_fault_name mmio_fault.NoMemory = codes "NoMemory"

abbrev pub begin_fault_number : BeginFault → ℕ
begin_fault_number (begin_fault.Submit fault) = submit_fault_number fault
begin_fault_number (begin_fault.Tick fault) = tick_fault_number fault
begin_fault_number (begin_fault.Mmio fault) = mmio_fault_number fault

abbrev pub begin_fault_name : BeginFault → List ℕ
begin_fault_name (begin_fault.Submit fault) = submit_fault_name fault
begin_fault_name (begin_fault.Tick fault) = tick_fault_name fault
begin_fault_name (begin_fault.Mmio fault) = mmio_fault_name fault

abbrev pub replay_fault_number : ReplayFault → ℕ
replay_fault_number (replay_fault.Illegal i) = 1
replay_fault_number replay_fault.NoMemory = 2

abbrev pub replay_fault_name : ReplayFault → List ℕ
replay_fault_name (replay_fault.Illegal i) = codes "Illegal"
replay_fault_name replay_fault.NoMemory = codes "NoMemory"

abbrev pub compare_fault_number : CompareFault → ℕ
compare_fault_number compare_fault.NoDomain = 1
compare_fault_number compare_fault.NoMemory = 2

abbrev pub compare_fault_name : CompareFault → List ℕ
compare_fault_name compare_fault.NoDomain = codes "NoDomain"
compare_fault_name compare_fault.NoMemory = codes "NoMemory"

abbrev pub places_fault_number : PlacesFault → ℕ
places_fault_number places_fault.NoDomain = 1
places_fault_number places_fault.NoMemory = 2

abbrev pub places_fault_name : PlacesFault → List ℕ
places_fault_name places_fault.NoDomain = codes "NoDomain"
places_fault_name places_fault.NoMemory = codes "NoMemory"

abbrev pub start_fault_number : StartFault → ℕ
start_fault_number start_fault.NoMemory = 1
start_fault_number start_fault.NoThread = 2

abbrev pub start_fault_name : StartFault → List ℕ
start_fault_name start_fault.NoMemory = codes "NoMemory"
start_fault_name start_fault.NoThread = codes "NoThread"

abbrev pub stop_fault_number : StopFault → ℕ
stop_fault_number stop_fault.NoMemory = 1
stop_fault_number stop_fault.Unbalanced = 2

abbrev pub stop_fault_name : StopFault → List ℕ
stop_fault_name stop_fault.NoMemory = codes "NoMemory"
stop_fault_name stop_fault.Unbalanced = codes "Unbalanced"

abbrev pub injector_fault_number : InjectorFault → ℕ
injector_fault_number injector_fault.RingFull = 1
injector_fault_number injector_fault.TooLong = 2
injector_fault_number injector_fault.WrongOrigin = 3

abbrev pub injector_fault_name : InjectorFault → List ℕ
injector_fault_name injector_fault.RingFull = codes "RingFull"
injector_fault_name injector_fault.TooLong = codes "TooLong"
injector_fault_name injector_fault.WrongOrigin = codes "WrongOrigin"

abbrev pub layout_cause_number : LayoutCause → ℕ
layout_cause_number layout_cause.Line = 1
layout_cause_number layout_cause.Limit = 2
layout_cause_number layout_cause.BusOverlap = 3
layout_cause_number layout_cause.BusOutside = 4
layout_cause_number layout_cause.WindowOverlap = 5
layout_cause_number layout_cause.WindowOutside = 6
layout_cause_number layout_cause.OwnerMixed = 7
layout_cause_number layout_cause.BarOutside = 8
layout_cause_number layout_cause.MapForeign = 9
layout_cause_number layout_cause.MapTwice = 10
layout_cause_number layout_cause.AcsUnknown = 11
layout_cause_number layout_cause.CreditRange = 12
layout_cause_number layout_cause.NoMemory = 13
layout_cause_number layout_cause.EgressForeign = 14

abbrev pub layout_cause_name : LayoutCause → List ℕ
layout_cause_name layout_cause.Line = codes "Line"
layout_cause_name layout_cause.Limit = codes "Limit"
layout_cause_name layout_cause.BusOverlap = codes "BusOverlap"
layout_cause_name layout_cause.BusOutside = codes "BusOutside"
layout_cause_name layout_cause.WindowOverlap = codes "WindowOverlap"
layout_cause_name layout_cause.WindowOutside = codes "WindowOutside"
layout_cause_name layout_cause.OwnerMixed = codes "OwnerMixed"
layout_cause_name layout_cause.BarOutside = codes "BarOutside"
layout_cause_name layout_cause.MapForeign = codes "MapForeign"
layout_cause_name layout_cause.MapTwice = codes "MapTwice"
layout_cause_name layout_cause.AcsUnknown = codes "AcsUnknown"
layout_cause_name layout_cause.CreditRange = codes "CreditRange"
layout_cause_name layout_cause.NoMemory = codes "NoMemory"
layout_cause_name layout_cause.EgressForeign = codes "EgressForeign"

abbrev pub script_cause_number : ScriptCause → ℕ
script_cause_number script_cause.Line = 1
script_cause_number script_cause.NoMemory = 2

abbrev pub script_cause_name : ScriptCause → List ℕ
script_cause_name script_cause.Line = codes "Line"
script_cause_name script_cause.NoMemory = codes "NoMemory"
