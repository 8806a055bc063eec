-- The header of a configuration space (PCIe 4.0, 7.5.1).
use Rattle.std.specs.Prelude.{ℕ, ◌+◌, ◌*◌, ◌/◌, ◌%◌, ◌==◌, nat_le, List, Option, Some, None, option_map, if◌then◌else◌}
use Rattle.text.specs.Text.{◌>>=◌}
use Rattle.lspci.specs.declared.header.HeaderKind.{HeaderKind}
use Rattle.lspci.specs.declared.header.HeaderKind.TheVariants as kind
use Rattle.lspci.specs.declared.header.BridgeBuses.{BridgeBuses}
use Rattle.lspci.specs.declared.header.Window.{Window}
use Rattle.lspci.specs.Spaces.{byte_at, word_at, long_at}

abbrev pub vendor_of : List ℕ → Option ℕ
vendor_of bytes = word_at bytes 0

abbrev pub device_of : List ℕ → Option ℕ
device_of bytes = word_at bytes 2

-- class and subclass
abbrev pub class_of : List ℕ → Option ℕ
class_of bytes = word_at bytes 0x0a

abbrev pub kind_of_byte : ℕ → HeaderKind
kind_of_byte byte = if byte % 128 == 0 then kind.Endpoint else (if byte % 128 == 1 then kind.Bridge else kind.Other)

-- the header's type, without the bit for several functions
abbrev pub kind_of : List ℕ → Option HeaderKind
kind_of bytes = option_map kind_of_byte (byte_at bytes 0x0e)

abbrev pub buses_of : List ℕ → Option BridgeBuses
buses_of bytes = do
  primary ← byte_at bytes 0x18
  secondary ← byte_at bytes 0x19
  subordinate ← byte_at bytes 0x1a
  Some (record { primary = primary; secondary = secondary; subordinate = subordinate })

-- Bits 15:4 of base and limit are bits 31:20 of the window's first and last address, whose lower bits are 0 and 1. A base
-- above the limit is no window.
abbrev pub wide_window_of : ℕ → ℕ → ℕ → ℕ → Option Window
wide_window_of base limit upper_base upper_limit =
    let first = upper_base * 0x1_0000_0000 + base / 16 * 0x10_0000 in
    let last = upper_limit * 0x1_0000_0000 + limit / 16 * 0x10_0000 + 0xf_ffff in
    if nat_le first last then Some (record { base = first; limit = last }) else None

abbrev pub window_of : ℕ → ℕ → Option Window
window_of base limit = wide_window_of base limit 0 0

abbrev pub memory_window : List ℕ → Option Window
memory_window bytes = do
  base ← word_at bytes 0x20
  limit ← word_at bytes 0x22
  window_of base limit

abbrev pub prefetchable_of : List ℕ → ℕ → ℕ → Option Window
prefetchable_of bytes base limit =
    if base % 16 == 1 then (do
      upper_base ← long_at bytes 0x28
      upper_limit ← long_at bytes 0x2c
      wide_window_of base limit upper_base upper_limit)
    else window_of base limit

-- bits 3:0 of the base are 1 where the window has 64 bits
abbrev pub prefetchable_window : List ℕ → Option Window
prefetchable_window bytes = do
  base ← word_at bytes 0x24
  limit ← word_at bytes 0x26
  prefetchable_of bytes base limit
