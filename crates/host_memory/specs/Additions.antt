-- A FetchAdd of a page (PCIe 4.0, 6.15): an operand of 4 or 8 bytes, the lowest first, is added. That is the order of this
-- project's host; what goes over is lost.
use Rattle.std.specs.Prelude.{ℕ, ◌+◌, ◌%◌, ◌^◌, ◌==◌, Bool, ◌||◌, List, length, Option, Some, None}
use Rattle.byteorder.specs.Endian.{little_bytes, little_number}
use Rattle.host_memory.specs.Pages.{part_of, written}

-- so many bytes are an operand
abbrev pub is_operand : ℕ → Bool
is_operand n = (n == 4) || (n == 8)

-- the sum of two numbers of n bytes
abbrev pub sum_of : ℕ → List ℕ → List ℕ → List ℕ
sum_of n old operand = little_bytes n ((little_number n old + little_number n operand) % 256 ^ n)

abbrev pub added_to : List (ℕ × List ℕ) → ℕ → ℕ → List ℕ → Option (List ℕ) → List (ℕ × List ℕ)
added_to pages k offset operand None = pages
added_to pages k offset operand (Some old) = written pages k offset (sum_of (length operand) old operand)

-- the pages with the operand added to the bytes of the page of this number from offset on
abbrev pub added : List (ℕ × List ℕ) → ℕ → ℕ → List ℕ → List (ℕ × List ℕ)
added pages k offset operand = added_to pages k offset operand (part_of pages k offset (offset + length operand))
