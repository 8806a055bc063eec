-- The ACS Extended Capability (PCIe 4.0, 7.7.8).
use Rattle.std.specs.Prelude.{ℕ, ◌+◌, ◌*◌, ◌++◌, List}
use Rattle.std.specs.Int.RustNames.{bit_and}
use Rattle.byteorder.specs.Endian.{little_bytes}
use Rattle.fab_types.specs.Controls.{bits_of}
use Rattle.fab_types.specs.declared.controls.AcsControl.{AcsControl}

-- 7.7.8.1: the ID in bits 15:0, the version in bits 19:16, the offset of the next capability in bits 31:20
abbrev pub extended_capability_header : ℕ → ℕ → ℕ → ℕ
extended_capability_header id version next = id + version * 0x10000 + next * 0x100000

-- 7.7.8.2: the five controls, bits 4:0
abbrev pub capability : ℕ
capability = 0x1f

-- the same with egress control, bit 5, and the size of the vector, 32 bits, in bits 15:8
abbrev pub egress_capability : ℕ
egress_capability = 0x203f

-- 7.7.8.3: the controls that are set, among those that the port has
abbrev pub control_of : AcsControl → ℕ
control_of control = bit_and (bits_of control) capability

-- ACS is the capability 000Dh; this is version 1, the last capability of the list
abbrev pub block_bytes : AcsControl → List ℕ
block_bytes control =
    little_bytes 4 (extended_capability_header 0x000d 1 0) ++ little_bytes 2 capability ++ little_bytes 2 (control_of control)

-- 7.7.8.4: the block of a port that controls egress has the vector behind the control register
abbrev pub egress_block_bytes : AcsControl → ℕ → List ℕ
egress_block_bytes control vector =
    little_bytes 4 (extended_capability_header 0x000d 1 0) ++ little_bytes 2 egress_capability ++ little_bytes 2 (bits_of control) ++ little_bytes 4 vector
