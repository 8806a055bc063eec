-- The fields of a header, taken from its bytes (PCIe 4.0, 2.2.1 to 2.2.9).
use Rattle.std.specs.Prelude.{◌≡◌, ◌≤◌, length, ℕ, ◌+◌, ◌*◌, ◌/◌, ◌%◌, ◌^◌, ◌==◌, Bool, true, List, [], ◌∷◌, drop, slice_index, Option, Some, None, unwrap_or, if◌then◌else◌}
use Rattle.std.specs.Int.{w32, w64, from_be_bytes}
use Rattle.fab_types.specs.declared.head.AddressType.{AddressType}
use Rattle.fab_types.specs.declared.head.AddressType.TheVariants.{Untranslated, TranslationRequest, Translated, Reserved}
use Rattle.fab_types.specs.declared.status.Status.{Status}
use Rattle.fab_types.specs.declared.status.Status.TheVariants.{SC, UR, CRS, CA}
use Rattle.tlp_view.specs.declared.attributes.Attributes.{Attributes}
use Rattle.tlp_view.specs.declared.enables.Enables.{Enables}
use Rattle.tlp_view.specs.declared.kind.Kind.{Kind}
use Rattle.tlp_view.specs.declared.kind.Kind.TheVariants.{MRd}
use Rattle.tlp_view.specs.Packet.{Packet, Body, Memory, Atomic, Message, Request, Completion}
use Rattle.tlp_view.specs.Kinds.{kind_at, is_memory, is_fetch_add, is_message, is_completion}

-- so many bits of a byte, from the bit low on
abbrev pub bits : ℕ → ℕ → ℕ → ℕ
bits value low count = value / 2 ^ low % 2 ^ count

abbrev pub is_set : ℕ → ℕ → Bool
is_set value bit = bits value bit 1 == 1

-- two bytes as a number
abbrev pub be_u16_at : List ℕ → ℕ → ℕ
be_u16_at bytes i = slice_index bytes i * 256 + slice_index bytes (i + 1)

-- byte 0: Fmt and Type
abbrev pub fmt_at : List ℕ → ℕ
fmt_at bytes = slice_index bytes 0 / 32

abbrev pub type_at : List ℕ → ℕ
type_at bytes = slice_index bytes 0 % 32

abbrev pub has_4dw_header_at : List ℕ → Bool
has_4dw_header_at bytes = is_set (slice_index bytes 0) 5

abbrev pub header_len : List ℕ → ℕ
header_len bytes = if has_4dw_header_at bytes then 16 else 12

-- bytes 1 to 3: Attr, AT and Length
abbrev pub attributes_at : List ℕ → Attributes
attributes_at bytes = record {
  id_based_ordering = is_set (slice_index bytes 1) 2;
  relaxed_ordering = is_set (slice_index bytes 2) 5;
  no_snoop = is_set (slice_index bytes 2) 4;
}

abbrev pub address_type_of : ℕ → AddressType
address_type_of field = if field == 0 then Untranslated else (if field == 1 then TranslationRequest else (if field == 2 then Translated else Reserved))

abbrev pub length_at : List ℕ → ℕ
length_at bytes = bits (slice_index bytes 2) 0 2 * 256 + slice_index bytes 3

-- requests: byte enables in byte 7, which an AtomicOp doesn't have, and the address from byte 8 on
abbrev pub enables_at : List ℕ → Enables
enables_at bytes = record { first = slice_index bytes 7 % 16; last = slice_index bytes 7 / 16 }

unfoldable pub address_at : List ℕ → ℕ
address_at bytes =
    if has_4dw_header_at bytes
    then from_be_bytes w64 (slice_index bytes 8 ∷ slice_index bytes 9 ∷ slice_index bytes 10 ∷ slice_index bytes 11 ∷ slice_index bytes 12 ∷ slice_index bytes 13 ∷ slice_index bytes 14 ∷ slice_index bytes 15 ∷ [])
    else from_be_bytes w32 (slice_index bytes 8 ∷ slice_index bytes 9 ∷ slice_index bytes 10 ∷ slice_index bytes 11 ∷ [])

-- completions: the status, in bits 7:5 of byte 6; None for a code that no status has
abbrev pub status_of : ℕ → Option Status
status_of field = if field == 0 then Some SC else (if field == 1 then Some UR else (if field == 2 then Some CRS else (if field == 4 then Some CA else None)))

abbrev pub status_at : List ℕ → Option Status
status_at bytes = status_of (slice_index bytes 6 / 32)

abbrev pub body_at : Kind → List ℕ → Body
body_at kind bytes =
    if is_memory kind then Memory (enables_at bytes) (address_at bytes)
    else (if is_message kind then Message (bits (slice_index bytes 0) 0 3)
    else (if is_completion kind then Completion (be_u16_at bytes 4) (unwrap_or (status_at bytes) SC) (bits (slice_index bytes 6) 0 4 * 256 + slice_index bytes 7) (slice_index bytes 11 % 128)
    else (if is_fetch_add kind then Atomic (address_at bytes)
    else Request)))

-- the packet that well-formed bytes are
abbrev pub packet_of_kind : Kind → List ℕ → Packet
packet_of_kind kind bytes = record {
  kind = kind;
  has_4dw_header = has_4dw_header_at bytes;
  attributes = attributes_at bytes;
  address_type = address_type_of (bits (slice_index bytes 2) 2 2);
  length = length_at bytes;
  requester = if is_completion kind then be_u16_at bytes 8 else be_u16_at bytes 4;
  tag = if is_completion kind then slice_index bytes 10 else slice_index bytes 6;
  body = body_at kind bytes;
  payload = drop (header_len bytes) bytes;
}

abbrev pub packet_of : List ℕ → Packet
packet_of bytes = packet_of_kind (unwrap_or (kind_at (fmt_at bytes) (type_at bytes)) MRd) bytes

-- the bytes hold a whole header
pub record HasHeader (bytes : List ℕ) : Type 0 where
  pub narrow : 12 ≤ length bytes
  pub wide : has_4dw_header_at bytes ≡ true → 16 ≤ length bytes
