-- The lists of capabilities of a configuration space (PCIe 4.0, 7.5.1.1.11 and 7.6.3).
use Rattle.std.specs.Prelude.{ℕ, zero, suc, ◌+◌, ◌*◌, ◌/◌, ◌%◌, ◌^◌, ◌==◌, ◌||◌, Bool, nat_lt, List, length, Option, Some, None, option_and_then, if◌then◌else◌}
use Rattle.text.specs.Text.{◌>>=◌}
use Rattle.lspci.specs.declared.capabilities.Entry.{Entry}
use Rattle.lspci.specs.declared.capabilities.PortType.{PortType}
use Rattle.lspci.specs.declared.capabilities.PortType.TheVariants as port
use Rattle.lspci.specs.Spaces.{byte_at, word_at, long_at}

-- an entry: its ID in bits 7:0, and the offset of the next one in bits 15:10
abbrev pub entry_of_word : ℕ → ℕ → Option Entry
entry_of_word offset word =
    if nat_lt offset 0x40 || (word == 0xffff) then None else Some (record { id = word % 256; next = word / 1024 * 4 })

abbrev pub entry_at : List ℕ → ℕ → Option Entry
entry_at bytes offset = option_and_then (entry_of_word offset) (word_at bytes offset)

-- where the entry of this ID is, among so many from this offset on
unfoldable pub capability_from : List ℕ → ℕ → ℕ → ℕ → Option ℕ
capability_from bytes id zero offset = None
capability_from bytes id (suc left) offset =
    option_and_then (λ entry. if entry.id == id then Some offset else capability_from bytes id left entry.next) (entry_at bytes offset)

abbrev pub capability_at : List ℕ → ℕ → ℕ → Option ℕ
capability_at bytes id pointer = capability_from bytes id 48 (pointer / 4 * 4)

-- bit 4 of the Status register says whether there is a list; the byte at 34h has its first offset
abbrev pub capability_of : List ℕ → ℕ → Option ℕ
capability_of bytes id = do
  status ← word_at bytes 0x06
  if status / 16 % 2 == 0 then None else option_and_then (capability_at bytes id) (byte_at bytes 0x34)

-- an entry of the extended space: its ID in bits 15:0, and the offset of the next one in bits 31:22
abbrev pub extended_entry_of : ℕ → ℕ → Option Entry
extended_entry_of offset header =
    if nat_lt offset 0x100 || (header == 0) || (header == 0xffff_ffff) then None
    else Some (record { id = header % 0x1_0000; next = header / 0x40_0000 * 4 })

abbrev pub extended_entry_at : List ℕ → ℕ → Option Entry
extended_entry_at bytes offset = option_and_then (extended_entry_of offset) (long_at bytes offset)

unfoldable pub extended_from : List ℕ → ℕ → ℕ → ℕ → Option ℕ
extended_from bytes id zero offset = None
extended_from bytes id (suc left) offset =
    option_and_then (λ entry. if entry.id == id then Some offset else extended_from bytes id left entry.next) (extended_entry_at bytes offset)

abbrev pub extended_of : List ℕ → ℕ → Option ℕ
extended_of bytes id = extended_from bytes id 960 0x100

abbrev pub has_extended : List ℕ → Bool
has_extended bytes = nat_lt 0x100 (length bytes)

-- bits 7:4 of the PCI Express Capabilities register (PCIe 4.0, 7.5.3.2)
abbrev pub port_type_of_bits : ℕ → PortType
port_type_of_bits bits =
    if (bits == 0) || (bits == 1) then port.Endpoint
    else (if bits == 4 then port.RootPort
    else (if bits == 5 then port.Upstream
    else (if bits == 6 then port.Downstream
    else (if (bits == 7) || (bits == 8) then port.Bridge
    else (if bits == 9 then port.Integrated else port.Other)))))

-- an offset has 16 bits
abbrev pub register_at : ℕ → Option ℕ
register_at offset = if nat_lt offset (2 ^ 16) then Some offset else None

-- the PCI Express capability has ID 10h; the register stands 2 bytes behind its start
abbrev pub port_type_of : List ℕ → Option PortType
port_type_of bytes = do
  offset ← capability_of bytes 0x10
  register ← register_at (offset + 2)
  flags ← word_at bytes register
  Some (port_type_of_bits (flags / 16 % 16))

-- bits 31:24 of the Link Capabilities register, which stands 12 bytes behind the start of the capability (PCIe 4.0, 7.5.3.6)
abbrev pub port_number_of : List ℕ → Option ℕ
port_number_of bytes = do
  offset ← capability_of bytes 0x10
  register ← register_at (offset + 12)
  capabilities ← long_at bytes register
  Some (capabilities / 0x100_0000)
