-- The ACS capability of a function (PCIe 4.0, 7.7.8).
use Rattle.std.specs.Prelude.{ℕ, ◌+◌, ◌*◌, ◌/◌, ◌%◌, ◌^◌, ◌==◌, ◌&&◌, ◌||◌, Bool, true, false, nat_le, nat_lt, is_none, unwrap_or, List, length, Option, Some, None, if◌then◌else◌}
use Rattle.text.specs.Text.{◌>>=◌}
use Rattle.lspci.specs.declared.acs.Acs.{Acs}
use Rattle.lspci.specs.declared.acs.Acs.TheVariants.{Absent, Unknown, Standard, Wide}
use Rattle.lspci.specs.declared.capabilities.PortType.{PortType}
use Rattle.lspci.specs.declared.capabilities.PortType.TheVariants as port
use Rattle.lspci.specs.Spaces.{word_at, long_at}
use Rattle.lspci.specs.Headers.{vendor_of, device_of}
use Rattle.lspci.specs.Capabilities.{extended_of, has_extended, port_type_of, register_at}

abbrev pub is_in : ℕ → ℕ → ℕ → Bool
is_in least most device = nat_le least device && nat_le device most

-- Device IDs of Intel's root ports with registers of 32 bits
abbrev pub is_wide_device : ℕ → Bool
is_wide_device device =
    is_in 0x9d10 0x9d1b device || is_in 0xa110 0xa11f device || is_in 0xa167 0xa16a device
    || is_in 0xa290 0xa29f device || is_in 0xa2e7 0xa2ee device

abbrev pub is_root_port : Option PortType → Bool
is_root_port (Some port.RootPort) = true
is_root_port _ = false

abbrev pub is_number : ℕ → Option ℕ → Bool
is_number wanted None = false
is_number wanted (Some number) = number == wanted

abbrev pub passes : (ℕ → Bool) → Option ℕ → Bool
passes test None = false
passes test (Some number) = test number

abbrev pub has_wide_registers : List ℕ → Bool
has_wide_registers bytes =
    is_root_port (port_type_of bytes) && is_number 0x8086 (vendor_of bytes) && passes is_wide_device (device_of bytes)

-- two registers of 16 bits, 4 and 6 bytes behind the start
abbrev pub standard_acs : List ℕ → ℕ → Option Acs
standard_acs bytes offset = do
  first ← register_at (offset + 4)
  capability ← word_at bytes first
  second ← register_at (offset + 6)
  control ← word_at bytes second
  Some (Standard capability control)

-- two registers of 32 bits, 4 and 8 bytes behind the start
abbrev pub wide_acs : List ℕ → ℕ → Option Acs
wide_acs bytes offset = do
  first ← register_at (offset + 4)
  capability ← long_at bytes first
  second ← register_at (offset + 8)
  control ← long_at bytes second
  Some (Wide capability control)

abbrev pub acs_at : List ℕ → Option ℕ → Acs
acs_at bytes None = Absent
acs_at bytes (Some offset) = unwrap_or (if has_wide_registers bytes then wide_acs bytes offset else standard_acs bytes offset) Unknown

-- the lists of capabilities may go on where nothing is shown
abbrev pub is_cut : List ℕ → Bool
is_cut bytes = nat_lt (length bytes) 0x100

-- the capability has ID 000Dh
unfoldable pub acs_of : List ℕ → Acs
acs_of bytes =
    if is_cut bytes then Unknown
    else (if is_none (port_type_of bytes) then Absent
    else (if has_extended bytes then acs_at bytes (extended_of bytes 0x0d) else Unknown))

-- ---- the Egress Control Vector (PCIe 4.0, 7.7.8.4)

-- how many bits it has: bits 15:8 of the capability register, in which 0 stands for 256
abbrev pub vector_size : ℕ → ℕ
vector_size capability = if capability / 256 % 256 == 0 then 256 else capability / 256 % 256

-- it begins 8 bytes behind the start of the capability
abbrev pub vector_bit : List ℕ → ℕ → ℕ → Option Bool
vector_bit bytes number offset = do
  register ← register_at (offset + (8 + number / 32 * 4))
  part ← long_at bytes register
  Some ((part / 2 ^ (number % 32)) % 2 == 1)

abbrev pub bit_by : List ℕ → ℕ → Acs → Option Bool
bit_by bytes number (Standard capability control) = if nat_lt number (vector_size capability) then extended_of bytes 0x0d >>= vector_bit bytes number else None
bit_by bytes number _ = None

-- the bit of the port of this number, if the vector has one and it is shown
abbrev pub egress_bit : List ℕ → ℕ → Option Bool
egress_bit bytes number = bit_by bytes number (acs_of bytes)
