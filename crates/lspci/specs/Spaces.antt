-- Registers of a configuration space: the least byte stands first (PCIe 4.0, 7.5).
use Rattle.std.specs.Prelude.{ℕ, ◌+◌, ◌*◌, List, slice_get, Option, Some}
use Rattle.text.specs.Text.{◌>>=◌}

-- the byte at an offset, if it is shown
abbrev pub byte_at : List ℕ → ℕ → Option ℕ
byte_at bytes offset = slice_get bytes offset

-- the register of 16 bits at an offset
abbrev pub word_at : List ℕ → ℕ → Option ℕ
word_at bytes offset = do
  low ← byte_at bytes offset
  high ← byte_at bytes (offset + 1)
  Some (low + 256 * high)

-- the register of 32 bits at an offset
abbrev pub long_at : List ℕ → ℕ → Option ℕ
long_at bytes offset = do
  low ← word_at bytes offset
  high ← word_at bytes (offset + 2)
  Some (low + 65536 * high)
