-- The lines of a DMA program in a register page, and what they emit. This is the project's own.
use Rattle.std.specs.Prelude.{◌≡◌, ℕ, ◌+◌, ◌*◌, ◌%◌, ◌≤◌, ◌==◌, nat_le, Bool, false, ◌&&◌, List, [], ◌∷◌, slice_index, slice_range, if◌then◌else◌}
use Rattle.std.specs.Int.{w16, w64, from_le_bytes}
use Rattle.fab_types.specs.declared.head.AddressType.TheVariants.{Untranslated}
use Rattle.function.specs.declared.line.Operation.{Operation}
use Rattle.function.specs.declared.line.Operation.TheVariants.{Halt, Write, Read, Fence, Unknown}
use Rattle.function.specs.declared.line.ProgramLine.{ProgramLine}
use Rattle.tlp_view.specs.declared.request.RequestHead.{RequestHead}
use Rattle.tlp_view.specs.Packet.{Packet}
use Rattle.tlp_view.specs.Requests.{all_enabled, read_request, write_request}

-- numbers of 16 and 64 bits, the low byte first
abbrev pub le_u16_at : List ℕ → ℕ → ℕ
le_u16_at page at = from_le_bytes w16 (slice_index page at ∷ slice_index page (at + 1) ∷ [])

unfoldable pub le_u64_at : List ℕ → ℕ → ℕ
le_u64_at page at = from_le_bytes w64 (slice_index page at ∷ slice_index page (at + 1) ∷ slice_index page (at + 2) ∷ slice_index page (at + 3) ∷ slice_index page (at + 4) ∷ slice_index page (at + 5) ∷ slice_index page (at + 6) ∷ slice_index page (at + 7) ∷ [])

abbrev pub operation_of : ℕ → Operation
operation_of code = if code == 0 then Halt else (if code == 1 then Write else (if code == 2 then Read else (if code == 3 then Fence else Unknown)))

-- the line whose 16 bytes begin here
abbrev pub line_from : List ℕ → ℕ → ProgramLine
line_from page at = record {
  operation = operation_of (slice_index page at);
  count = slice_index page (at + 1);
  offset = le_u16_at page (at + 2);
  relaxed_ordering = slice_index page (at + 4) % 2 == 1;
  address = le_u64_at page (at + 8);
}

-- the program begins at 100h
abbrev pub line_at : List ℕ → ℕ → ProgramLine
line_at page number = line_from page (0x100 + 16 * number)

-- a write or read line is of 1 to 64 DW, in the buffer and within 4,096 bytes of memory
abbrev pub is_good : ProgramLine → Bool
is_good line =
    nat_le 1 line.count && nat_le line.count 64
    && (line.offset % 4 == 0) && nat_le (line.offset + 4 * line.count) 1024
    && (line.address % 4 == 0) && nat_le (line.address % 4096 + 4 * line.count) 4096

-- the same as facts
pub record IsGood (line : ProgramLine) : Type 0 where
  pub some : 1 ≤ line.count
  pub most : line.count ≤ 64
  pub whole : line.offset % 4 ≡ 0
  pub inside : line.offset + 4 * line.count ≤ 1024
  pub aligned : line.address % 4 ≡ 0
  pub within : line.address % 4096 + 4 * line.count ≤ 4096

-- the header of a line's request, with all bytes enabled
abbrev pub head_of : ℕ → ℕ → ProgramLine → RequestHead
head_of id tag line = record {
  requester = id;
  tag = tag;
  enables = all_enabled line.count;
  address = line.address;
  address_type = Untranslated;
  attributes = record { id_based_ordering = false; relaxed_ordering = line.relaxed_ordering; no_snoop = false };
}

-- the buffer begins at 400h; a write has Tag 0
abbrev pub write_of : ℕ → List ℕ → ProgramLine → Packet
write_of id page line = write_request (head_of id 0 line) (slice_range page (0x400 + line.offset) (0x400 + line.offset + 4 * line.count))

abbrev pub read_of : ℕ → ℕ → ProgramLine → Packet
read_of id tag line = read_request (head_of id tag line) line.count
