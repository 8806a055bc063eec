-- The number, the name and the frame of each refusal of a frame.
use Rattle.std.specs.Prelude.{ℕ, List, codes}
use Rattle.frame_log.specs.Descriptor.{Descriptor}
use Rattle.frame_log.specs.declared.fault.FrameFault.{FrameFault}
use Rattle.frame_log.specs.declared.fault.FrameFault.TheVariants.{Stray, NoMemory}

abbrev pub frame_fault_number : FrameFault → ℕ
frame_fault_number (Stray frame) = 1
frame_fault_number (NoMemory frame) = 2

abbrev pub frame_fault_name : FrameFault → List ℕ
frame_fault_name (Stray frame) = codes "Stray"
frame_fault_name (NoMemory frame) = codes "NoMemory"

-- the frame that is given back
abbrev pub fault_frame : FrameFault → Descriptor
fault_frame (Stray frame) = frame
fault_frame (NoMemory frame) = frame
