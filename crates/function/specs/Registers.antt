-- The register page of a function. Its layout is this project's own.
use Rattle.std.specs.Prelude.{ℕ, ◌+◌, ◌/◌, ◌%◌, ◌==◌, nat_le, nat_lt, Bool, ◌&&◌, ◌||◌, List, [], ◌∷◌, replicate, slice_index, slice_range, slice_set, Option, Some, None, option_map, if◌then◌else◌}
use Rattle.std.specs.List.{find}
use Rattle.function.specs.declared.registers.Register.{Register}
use Rattle.function.specs.declared.registers.Register.TheVariants.{Id, Control, Status, ProgramCounter, Program, Buffer}

-- where a register stands: its first byte, and how many it has
pub record Row : Type 0 where
  pub first : ℕ
  pub size : ℕ
  pub register : Register

-- CTRL is one byte: those after it stay 0
abbrev pub table : List Row
table =
    record { first = 0x000; size = 4; register = Id }
    ∷ record { first = 0x004; size = 1; register = Control }
    ∷ record { first = 0x008; size = 4; register = Status }
    ∷ record { first = 0x00c; size = 4; register = ProgramCounter }
    ∷ record { first = 0x100; size = 256; register = Program }
    ∷ record { first = 0x400; size = 1024; register = Buffer }
    ∷ []

abbrev pub has_byte : ℕ → Row → Bool
has_byte offset row = nat_le row.first offset && nat_lt offset (row.first + row.size)

-- the register of a byte, if it has one
unfoldable pub register_at : ℕ → Option Register
register_at offset = option_map (λ row. row.register) (find (has_byte offset) table)

-- values of several bytes have the low byte first; these three stand in their first byte
abbrev pub status_of : List ℕ → ℕ
status_of page = slice_index page 0x008

abbrev pub counter_of : List ℕ → ℕ
counter_of page = slice_index page 0x00c

abbrev pub with_status : List ℕ → ℕ → List ℕ
with_status page status = slice_set page 0x008 status

-- a write of CTRL: bit 0 starts the program at its first line, or stops it
abbrev pub started : List ℕ → ℕ → List ℕ
started page value =
    if value % 2 == 1
    then slice_set (with_status (slice_set page 0x004 1) 1) 0x00c 0
    else with_status (slice_set page 0x004 0) 0

-- what a write to a byte changes, by its register
abbrev pub write_register : Option Register → List ℕ → ℕ → ℕ → List ℕ
write_register None page offset value = page
write_register (Some Id) page offset value = page
write_register (Some Control) page offset value = started page value
write_register (Some Status) page offset value = page
write_register (Some ProgramCounter) page offset value = page
write_register (Some Program) page offset value = slice_set page offset value
write_register (Some Buffer) page offset value = slice_set page offset value

abbrev pub write_byte : List ℕ → ℕ → ℕ → List ℕ
write_byte page offset value = write_register (register_at offset) page offset value

abbrev pub write_bytes : List ℕ → ℕ → List ℕ → List ℕ
write_bytes page offset [] = page
write_bytes page offset (byte ∷ bytes) = write_bytes (write_byte page offset byte) (offset + 1) bytes

-- do these bytes belong to the program, or to the buffer, which keep what is written?
abbrev pub are_kept : ℕ → ℕ → Bool
are_kept first end = (nat_le 0x100 first && nat_le end 0x200) || (nat_le 0x400 first && nat_le end 0x800)

-- a write of runs of bytes, each at its offset from a first byte
abbrev pub write_page : List ℕ → ℕ → List (ℕ × List ℕ) → List ℕ
write_page page first [] = page
write_page page first (run ∷ runs) = write_page (write_bytes page (first + run.0) run.1) first runs

-- the page at the start: the ID, and 0
unfoldable pub first_page : ℕ → List ℕ
first_page id = id / 256 ∷ id % 256 ∷ 0x46 ∷ 0x42 ∷ replicate 4092 0

abbrev pub read_page : List ℕ → ℕ → ℕ → List ℕ
read_page page offset count = slice_range page offset (offset + count)
