-- The bytes of a packet, put together from its fields (PCIe 4.0, 2.2.1 to 2.2.9).
use Rattle.std.specs.Prelude.{◌≡◌, ℕ, ◌+◌, ◌*◌, ◌/◌, ◌%◌, ◌^◌, ◌<◌, Bool, true, false, List, [], ◌∷◌, ◌++◌, length, None, if◌then◌else◌}
use Rattle.std.specs.Int.{w32, w64, to_be_bytes}
use Rattle.fab_types.specs.declared.head.AddressType.{AddressType}
use Rattle.fab_types.specs.declared.head.AddressType.TheVariants.{Untranslated, TranslationRequest, Translated, Reserved}
use Rattle.fab_types.specs.declared.status.Status.{Status}
use Rattle.fab_types.specs.declared.status.Status.TheVariants.{SC, UR, CRS, CA}
use Rattle.tlp_view.specs.declared.kind.Kind.{Kind}
use Rattle.tlp_view.specs.Packet.{Packet, Body, Memory, Atomic, Message, Request, Completion}
use Rattle.tlp_view.specs.Kinds.{has_data, has_form, type_of, is_memory, is_fetch_add, is_message, is_completion}
use Rattle.tlp_view.specs.Malformed.{malformed}

abbrev pub flag : Bool → ℕ
flag b = if b then 1 else 0

abbrev pub address_type_bits : AddressType → ℕ
address_type_bits Untranslated = 0
address_type_bits TranslationRequest = 1
address_type_bits Translated = 2
address_type_bits Reserved = 3

abbrev pub status_bits : Status → ℕ
status_bits SC = 0
status_bits UR = 1
status_bits CRS = 2
status_bits CA = 4

abbrev pub routing_in : Body → ℕ
routing_in (Memory enables address) = 0
routing_in (Atomic address) = 0
routing_in (Message routing) = routing
routing_in Request = 0
routing_in (Completion completer status count lower) = 0

-- an ID or another number of 16 bits
abbrev pub be_u16 : ℕ → List ℕ
be_u16 n = n / 256 ∷ n % 256 ∷ []

-- Fmt, Type, Attr, AT and Length
abbrev pub first_dw : Packet → List ℕ
first_dw t =
    (64 * flag (has_data t.kind) + 32 * flag t.has_4dw_header + type_of t.kind (routing_in t.body))
    ∷ 4 * flag t.attributes.id_based_ordering
    ∷ (32 * flag t.attributes.relaxed_ordering + 16 * flag t.attributes.no_snoop + 4 * address_type_bits t.address_type + t.length / 256)
    ∷ t.length % 256 ∷ []

abbrev pub address_bytes : Bool → ℕ → List ℕ
address_bytes has_4dw_header address = if has_4dw_header then to_be_bytes w64 address else to_be_bytes w32 address

-- the rest of the header; unused are the bytes, and of a completion the one bit, that have no field
abbrev pub other_dws : Bool → ℕ → ℕ → Body → List ℕ → List ℕ
other_dws has_4dw_header requester tag (Memory enables address) unused = be_u16 requester ++ tag ∷ (16 * enables.last + enables.first) ∷ address_bytes has_4dw_header address
other_dws has_4dw_header requester tag (Atomic address) unused = be_u16 requester ++ tag ∷ unused ++ address_bytes has_4dw_header address
other_dws has_4dw_header requester tag (Message routing) unused = be_u16 requester ++ tag ∷ unused
other_dws has_4dw_header requester tag Request unused = be_u16 requester ++ tag ∷ unused
other_dws has_4dw_header requester tag (Completion completer status count lower) unused =
    be_u16 completer ++ (32 * status_bits status + count / 256) ∷ count % 256 ∷ be_u16 requester ++ tag ∷ (128 * length unused + lower) ∷ []

abbrev pub header : Packet → List ℕ → List ℕ
header t unused = first_dw t ++ other_dws t.has_4dw_header t.requester t.tag t.body unused

-- how many bytes of a request have no field: byte 7 and the DWs after it, but an address
abbrev pub HasUnused : Body → Bool → List ℕ → Type 0
HasUnused (Memory enables address) has_4dw_header unused = unused ≡ []
HasUnused (Atomic address) has_4dw_header unused = length unused ≡ 1
HasUnused (Message routing) has_4dw_header unused = length unused ≡ (if has_4dw_header then 9 else 5)
HasUnused Request has_4dw_header unused = length unused ≡ (if has_4dw_header then 9 else 5)
HasUnused (Completion completer status count lower) has_4dw_header unused = length unused < 2

-- each field has a value of its width
abbrev pub BodyFits : Kind → Bool → Body → Type 0
BodyFits kind has_4dw_header (Memory enables address) = (is_memory kind ≡ true) × (enables.first < 16) × (enables.last < 16) × (address < (if has_4dw_header then 2 ^ 64 else 2 ^ 32))
BodyFits kind has_4dw_header (Atomic address) = (is_fetch_add kind ≡ true) × (address < (if has_4dw_header then 2 ^ 64 else 2 ^ 32))
BodyFits kind has_4dw_header (Message routing) = (is_message kind ≡ true) × (routing < 8)
BodyFits kind has_4dw_header Request = (is_memory kind ≡ false) × (is_message kind ≡ false) × (is_completion kind ≡ false) × (is_fetch_add kind ≡ false)
BodyFits kind has_4dw_header (Completion completer status count lower) = (is_completion kind ≡ true) × (completer < 2 ^ 16) × (count < 2 ^ 12) × (lower < 2 ^ 7)

pub record Fits (t : Packet) : Type 0 where
  pub form : has_form t.kind t.has_4dw_header ≡ true
  pub length : t.length < 2 ^ 10
  pub requester : t.requester < 2 ^ 16
  pub tag : t.tag < 2 ^ 8
  pub body : BodyFits t.kind t.has_4dw_header t.body

-- the bytes are the packet's header and its payload, and no cause makes them malformed
pub record Spells (bytes : List ℕ) (t : Packet) : Type 0 where
  pub fits : Fits t
  pub unused : List ℕ
  pub has_unused : HasUnused t.body t.has_4dw_header unused
  pub put_together : bytes ≡ header t unused ++ t.payload
  pub well_formed : malformed bytes ≡ None
