-- How the program ends.
use Rattle.std.specs.Prelude.{◌≡◌, ◌≢◌, ◌⊎◌, ℕ, ⊤, Bool, true, false}
use Rattle.std.specs.IoError.{error_kind}
use Rattle.std.specs.declared.io.Error.{Error}
use Rattle.std.specs.declared.io.ErrorKind.TheVariants as error_kinds
use Rattle.fab_types.specs.declared.faults.running.StartFault.{StartFault}
use Rattle.fab_types.specs.declared.faults.running.StartFault.TheVariants as start_fault
use Rattle.fab_types.specs.declared.faults.running.StopFault.{StopFault}
use Rattle.fab_types.specs.declared.faults.running.StopFault.TheVariants as stop_fault
use Rattle.command_line.specs.declared.request.WordsFault.{WordsFault}
use Rattle.command_line.specs.declared.request.WordsFault.TheVariants as words
use Rattle.import.specs.declared.fault.ImportFault.{ImportFault}
use Rattle.import.specs.declared.fault.ImportFault.TheVariants as no_import
use Rattle.journal_text.specs.declared.replaying.LineFault.{LineFault}
use Rattle.journal_text.specs.declared.replaying.LineFault.TheVariants as line_fault
use Rattle.inputs.specs.declared.fault.ExitStatus.{ExitStatus}
use Rattle.inputs.specs.declared.fault.ExitStatus.TheVariants as exit_status
use Rattle.inputs.specs.declared.fault.Fault.{Fault}
use Rattle.inputs.specs.declared.fault.Fault.TheVariants as fault

-- what a fault of the words comes to
abbrev pub fault_of_words : WordsFault → Fault
fault_of_words words.Usage = fault.Usage
fault_of_words words.NoMemory = fault.NoMemory

-- what it comes to that there is no layout of a dump
abbrev pub fault_of_import : ImportFault → Fault
fault_of_import no_import.NoMemory = fault.NoMemory
fault_of_import refused = fault.Import refused

-- what a fault of a journal's line comes to
abbrev pub fault_of_line : LineFault → Fault
fault_of_line (line_fault.Illegal line) = fault.IllegalEntry line
fault_of_line line_fault.NoMemory = fault.NoMemory

-- what it comes to that workers were not started
abbrev pub fault_of_start : StartFault → Fault
fault_of_start start_fault.NoMemory = fault.NoMemory
fault_of_start start_fault.NoThread = fault.ThreadsFailed

-- what it comes to that nothing was left of them
abbrev pub fault_of_stop : StopFault → Fault
fault_of_stop stop_fault.NoMemory = fault.NoMemory
fault_of_stop stop_fault.Unbalanced = fault.ThreadsFailed

-- the number that the host sees
abbrev pub exit_code : ExitStatus → ℕ
exit_code exit_status.Done = 0
exit_code exit_status.Stopped = 1
exit_code exit_status.NoMemory = 2
exit_code exit_status.Harmed = 3
exit_code exit_status.Unguarded = 4
exit_code exit_status.Partial = 5
exit_code exit_status.NothingToKeep = 6

-- is all done that was asked for?
abbrev pub is_done : ExitStatus → Bool
is_done exit_status.Done = true
is_done exit_status.Stopped = false
is_done exit_status.NoMemory = false
is_done exit_status.Harmed = true
is_done exit_status.Unguarded = true
is_done exit_status.Partial = true
is_done exit_status.NothingToKeep = true

-- the exit status after a fault: want of memory has its own
abbrev pub status_of : Fault → ExitStatus
status_of fault.NoMemory = exit_status.NoMemory
status_of _ = exit_status.Stopped

-- what may stop a run: want of memory, or an output that takes no more
abbrev pub IsRunFault : Fault → Type 0
IsRunFault fault.NoMemory = ⊤
IsRunFault fault.Unwritable = ⊤
IsRunFault _ = ⊥

-- what the failure of a writer comes to
abbrev pub IsWriterFault : Error → Fault → Type 0
IsWriterFault error f =
    ((error_kind error ≡ error_kinds.OutOfMemory) × (f ≡ fault.NoMemory))
    ⊎ ((error_kind error ≢ error_kinds.OutOfMemory) × (f ≡ fault.Unwritable))
