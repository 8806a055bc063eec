-- The definitions on small inputs: the table at its edges, writes of CTRL, lines and what they send, and
-- completions.
use Rattle.std.proofs.Common.{◌≡◌, ℕ, true, false, List, [], ◌∷◌, Some, None, refl}
use Rattle.fab_types.specs.declared.origin.Origin.TheVariants.{Function, Host}
use Rattle.fab_types.specs.declared.status.Status.TheVariants.{SC, UR}
use Rattle.tlp_view.specs.Requests.{packet_bytes, write_request}
use Rattle.function.specs.declared.line.Operation.TheVariants.{Write, Read}
use Rattle.function.specs.declared.line.ProgramLine.{ProgramLine}
use Rattle.function.specs.declared.registers.Register.TheVariants.{Control, Program, Buffer}
use Rattle.function.specs.declared.tags.OpenTag.{OpenTag}
use Rattle.function.specs.declared.tags.TagUse.TheVariants.{Raw, Line}
use Rattle.function.specs.Registers.{register_at, write_bytes}
use Rattle.function.specs.Program.{head_of, is_good, line_from, le_u64_at, read_of}
use Rattle.function.specs.Plans.{advanced}
use Rattle.function.specs.Closings.{closed}
use Rattle.fab_types.specs.Bytes.{overwritten}
use Rattle.function.specs.Tags.{awaits_line, free_tag}

ctrl_there : register_at 0x004 ≡ Some Control
unfolding register_at
ctrl_there = refl

ctrl_is_one_byte : register_at 0x005 ≡ None
unfolding register_at
ctrl_is_one_byte = refl

program_end : register_at 0x1ff ≡ Some Program
unfolding register_at
program_end = refl

program_over : register_at 0x200 ≡ None
unfolding register_at
program_over = refl

buffer_end : register_at 0x7ff ≡ Some Buffer
unfolding register_at
buffer_end = refl

buffer_over : register_at 0x800 ≡ None
unfolding register_at
buffer_over = refl

-- the first 16 bytes of a page, with these values of CTRL, STATUS and PC
abbrev front : ℕ → ℕ → ℕ → List ℕ
front ctrl status counter = 3 ∷ 0 ∷ 0x46 ∷ 0x42 ∷ ctrl ∷ 0 ∷ 0 ∷ 0 ∷ status ∷ 0 ∷ 0 ∷ 0 ∷ counter ∷ 0 ∷ 0 ∷ 0 ∷ []

start : write_bytes (front 0 2 5) 0x004 (3 ∷ 0xff ∷ 0xff ∷ 0xff ∷ []) ≡ front 1 1 0
unfolding register_at
start = refl

stop : write_bytes (front 1 1 5) 0x004 (2 ∷ []) ≡ front 0 0 5
unfolding register_at
stop = refl

read_only : write_bytes (front 1 1 5) 0x005 (9 ∷ 9 ∷ 9 ∷ 9 ∷ 9 ∷ 9 ∷ 9 ∷ 9 ∷ []) ≡ front 1 1 5
unfolding register_at
read_only = refl

-- a write of one DW from the buffer's start to 1000h
abbrev write_line : ProgramLine
write_line = record { operation = Write; count = 1; offset = 0; relaxed_ordering = false; address = 0x1000 }

its_fields : line_from (1 ∷ 1 ∷ 0 ∷ 0 ∷ 0 ∷ 0 ∷ 0 ∷ 0 ∷ 0 ∷ 0x10 ∷ 0 ∷ 0 ∷ 0 ∷ 0 ∷ 0 ∷ 0 ∷ []) 0 ≡ write_line
unfolding le_u64_at
its_fields = refl

its_request : packet_bytes (write_request (head_of 0x0300 0 write_line) (0xca ∷ 0xfe ∷ 1 ∷ 2 ∷ []))
    ≡ 0x40 ∷ 0 ∷ 0 ∷ 1 ∷ 3 ∷ 0 ∷ 0 ∷ 0x0f ∷ 0 ∷ 0 ∷ 0x10 ∷ 0 ∷ 0xca ∷ 0xfe ∷ 1 ∷ 2 ∷ []
its_request = refl

-- a read of two DW from above 4 GB, with Relaxed Ordering
abbrev read_line : ProgramLine
read_line = record { operation = Read; count = 2; offset = 0x208; relaxed_ordering = true; address = 0x1_0000_0ff8 }

fields_of_a_read : line_from (2 ∷ 2 ∷ 8 ∷ 2 ∷ 1 ∷ 0 ∷ 0 ∷ 0 ∷ 0xf8 ∷ 0x0f ∷ 0 ∷ 0 ∷ 1 ∷ 0 ∷ 0 ∷ 0 ∷ []) 0 ≡ read_line
unfolding le_u64_at
fields_of_a_read = refl

request_of_a_read : packet_bytes (read_of 0x0300 7 read_line) ≡ 0x20 ∷ 0 ∷ 0x20 ∷ 2 ∷ 3 ∷ 0 ∷ 7 ∷ 0xff ∷ 0 ∷ 0 ∷ 0 ∷ 1 ∷ 0 ∷ 0 ∷ 0x0f ∷ 0xf8 ∷ []
request_of_a_read = refl

good : is_good read_line ≡ true
good = refl

no_count : is_good (record write_line { count = 0 }) ≡ false
no_count = refl

over_the_page : is_good (record read_line { address = 0x1ffc }) ≡ false
over_the_page = refl

over_the_buffer : is_good (record read_line { offset = 0x3fc }) ≡ false
over_the_buffer = refl

next_line : advanced (front 1 1 14) ≡ front 1 1 15
next_line = refl

last_line : advanced (front 1 1 15) ≡ front 1 2 16
last_line = refl

-- function 03:00.0 has Tags 0 and 2 open, the host of domain 1 has Tag 1
abbrev open_tags : List OpenTag
open_tags =
    record { owner = Function 0x0300; tag = 0; usage = Raw }
    ∷ record { owner = Host 1; tag = 1; usage = Raw }
    ∷ record { owner = Function 0x0300; tag = 2; usage = Line 8 1 }
    ∷ []

lowest : free_tag open_tags 0x0300 ≡ Some 1
unfolding free_tag
lowest = refl

line_awaited : awaits_line open_tags 0x0300 ≡ true
line_awaited = refl

no_line_awaited : awaits_line open_tags 0x0800 ≡ false
no_line_awaited = refl

put : overwritten (1 ∷ 2 ∷ 3 ∷ 4 ∷ []) 1 (8 ∷ 9 ∷ []) ≡ 1 ∷ 8 ∷ 9 ∷ 4 ∷ []
put = refl

cut_off : overwritten (1 ∷ 2 ∷ []) 1 (8 ∷ 9 ∷ []) ≡ 1 ∷ 8 ∷ []
cut_off = refl

short : closed (front 1 2 2) 8 2 SC (1 ∷ 2 ∷ 3 ∷ 4 ∷ []) ≡ front 1 3 2
short = refl

refused : closed (front 0 0 2) 8 1 UR [] ≡ front 0 3 2
refused = refl
