-- A packet's header, put together, is read as that packet.
use Rattle.std.proofs.Common.{◌≡◌, ℕ, ◌+◌, ◌*◌, ◌/◌, ◌%◌, ◌^◌, ◌<◌, Bool, true, false, cond, eqb, List, [], ◌∷◌, ◌++◌, length, drop, slice_index, Some, unwrap_or, refl, sym, ap, ◌∙◌, arith}
use Rattle.std.proofs.lemmas.Bool.{cond-true, cond-false}
use Rattle.std.proofs.lemmas.List.{drop_at}
use Rattle.std.proofs.lemmas.Nat.{from_be_bytes-to_be_bytes_4, from_be_bytes-to_be_bytes_8}
use Rattle.std.specs.Int.{w32, w64, to_be_bytes, from_be_bytes}
use Rattle.fab_types.specs.declared.head.AddressType.{AddressType}
use Rattle.fab_types.specs.declared.head.AddressType.TheVariants.{Untranslated, TranslationRequest, Translated, Reserved}
use Rattle.fab_types.specs.declared.status.Status.{Status}
use Rattle.fab_types.specs.declared.status.Status.TheVariants.{SC, UR, CRS, CA}
use Rattle.tlp_view.specs.declared.attributes.Attributes.{Attributes}
use Rattle.tlp_view.specs.declared.enables.Enables.{Enables}
use Rattle.tlp_view.specs.declared.kind.Kind.{Kind}
use Rattle.tlp_view.specs.declared.kind.Kind.TheVariants.{MRd}
use Rattle.tlp_view.specs.Packet.{Packet, Body, Memory, Atomic, Message, Request, Completion}
use Rattle.tlp_view.specs.Kinds.{kind_at, has_form, is_memory, is_fetch_add, is_message, is_completion}
use Rattle.tlp_view.specs.Bytes.{bits, is_set, be_u16_at, fmt_at, type_at, has_4dw_header_at, attributes_at, address_type_of, length_at, enables_at, address_at, status_of, status_at, body_at, packet_of_kind, packet_of}
use Rattle.tlp_view.specs.Spelling.{flag, address_type_bits, status_bits, header, HasUnused, BodyFits, Fits, Spells}
use Rattle.tlp_view.proofs.KindFacts.{byte_0, flag_again, flag_small, kind_again, wide_again, routing_again, memory_no_completion, message_no_memory, message_no_completion, completion_no_memory, completion_no_message, completion_is_narrow, fetch_add_no_memory, fetch_add_no_message, fetch_add_no_completion}

address_type_again : (at : AddressType) → address_type_of (address_type_bits at) ≡ at
address_type_again Untranslated = refl
address_type_again TranslationRequest = refl
address_type_again Translated = refl
address_type_again Reserved = refl

pub address_type_small : (at : AddressType) → address_type_bits at < 4
address_type_small Untranslated = omega arith
address_type_small TranslationRequest = omega arith
address_type_small Translated = omega arith
address_type_small Reserved = omega arith

pub status_again : (status : Status) → status_of (status_bits status) ≡ Some status
status_again SC = refl
status_again UR = refl
status_again CRS = refl
status_again CA = refl

pub status_small : (status : Status) → status_bits status < 8
status_small SC = omega arith
status_small UR = omega arith
status_small CRS = omega arith
status_small CA = omega arith

pub same_packet : {a b : Packet} → a.kind ≡ b.kind → a.has_4dw_header ≡ b.has_4dw_header → a.attributes ≡ b.attributes → a.address_type ≡ b.address_type → a.length ≡ b.length → a.requester ≡ b.requester → a.tag ≡ b.tag → a.body ≡ b.body → a.payload ≡ b.payload → a ≡ b
same_packet k w a t l r g b p = λ i. record { kind = k i; has_4dw_header = w i; attributes = a i; address_type = t i; length = l i; requester = r i; tag = g i; body = b i; payload = p i }

-- byte 2
abbrev byte_2 : Attributes → AddressType → ℕ → ℕ
byte_2 attributes at len = 32 * flag attributes.relaxed_ordering + 16 * flag attributes.no_snoop + 4 * address_type_bits at + len / 256

-- the bytes of a header whose first DW has these fields
abbrev bytes_of : Kind → Bool → Attributes → AddressType → ℕ → ℕ → List ℕ → List ℕ
bytes_of kind wide attributes at len routing rest = byte_0 kind wide routing ∷ 4 * flag attributes.id_based_ordering ∷ byte_2 attributes at len ∷ len % 256 ∷ rest

module _ (kind : Kind) (wide : Bool) (attributes : Attributes) (at : AddressType) (len : ℕ) (form : has_form kind wide ≡ true) (len_fits : len < 1024) (routing : ℕ) (routing_fits : routing < 8) (rest : List ℕ) where
  abbrev all : List ℕ
  all = bytes_of kind wide attributes at len routing rest

  relaxed_again : is_set (byte_2 attributes at len) 5 ≡ attributes.relaxed_ordering
  relaxed_again =
      let r = flag_small attributes.relaxed_ordering in
      let n = flag_small attributes.no_snoop in
      let t = address_type_small at in
      let e : byte_2 attributes at len / 32 % 2 ≡ flag attributes.relaxed_ordering = omega (arith, r, n, t) in
      ap (λ n. eqb n 1) e ∙ flag_again attributes.relaxed_ordering

  snoop_again : is_set (byte_2 attributes at len) 4 ≡ attributes.no_snoop
  snoop_again =
      let r = flag_small attributes.relaxed_ordering in
      let n = flag_small attributes.no_snoop in
      let t = address_type_small at in
      let e : byte_2 attributes at len / 16 % 2 ≡ flag attributes.no_snoop = omega (arith, r, n, t) in
      ap (λ n. eqb n 1) e ∙ flag_again attributes.no_snoop

  order_again : is_set (4 * flag attributes.id_based_ordering) 2 ≡ attributes.id_based_ordering
  order_again =
      let r = flag_small attributes.id_based_ordering in
      let e : 4 * flag attributes.id_based_ordering / 4 % 2 ≡ flag attributes.id_based_ordering = omega (arith, r) in
      ap (λ n. eqb n 1) e ∙ flag_again attributes.id_based_ordering

  attributes_again : attributes_at all ≡ attributes
  attributes_again = λ i. record { id_based_ordering = order_again i; relaxed_ordering = relaxed_again i; no_snoop = snoop_again i }

  at_again : address_type_of (bits (byte_2 attributes at len) 2 2) ≡ at
  at_again =
      let r = flag_small attributes.relaxed_ordering in
      let n = flag_small attributes.no_snoop in
      let t = address_type_small at in
      let e : bits (byte_2 attributes at len) 2 2 ≡ address_type_bits at = omega (arith, r, n, t) in
      ap address_type_of e ∙ address_type_again at

  length_again : length_at all ≡ len
  length_again =
      let r = flag_small attributes.relaxed_ordering in
      let n = flag_small attributes.no_snoop in
      let t = address_type_small at in
      omega (arith, r, n, t)

  is_kind : kind_at (fmt_at all) (type_at all) ≡ Some kind
  is_kind = kind_again kind wide routing form routing_fits

  pub has_4dw_header : has_4dw_header_at all ≡ wide
  has_4dw_header = wide_again kind wide routing routing_fits

  packet_again : (requester tag : ℕ) (body : Body) (payload : List ℕ)
      → cond (is_completion kind) (be_u16_at all 8) (be_u16_at all 4) ≡ requester → cond (is_completion kind) (slice_index all 10) (slice_index all 6) ≡ tag
      → body_at kind all ≡ body → drop (cond wide 16 12) all ≡ payload
      → packet_of all ≡ record { kind = kind; has_4dw_header = wide; attributes = attributes; address_type = at; length = len; requester = requester; tag = tag; body = body; payload = payload }
  packet_again requester tag body payload r g b p =
      let e : packet_of all ≡ packet_of_kind kind all = ap (λ k. packet_of_kind (unwrap_or k MRd) all) is_kind in
      e ∙ same_packet refl has_4dw_header attributes_again at_again length_again r g b (ap (λ w. drop (cond w 16 12) all) has_4dw_header ∙ p)

word_again : (n : ℕ) → n / 256 * 256 + n % 256 ≡ n
word_again n = omega arith

pub body_memory : (kind : Kind) (bytes : List ℕ) → is_memory kind ≡ true → body_at kind bytes ≡ Memory (enables_at bytes) (address_at bytes)
body_memory kind bytes m = rw m refl

pub body_message : (kind : Kind) (bytes : List ℕ) → is_message kind ≡ true → body_at kind bytes ≡ Message (bits (slice_index bytes 0) 0 3)
body_message kind bytes m = rw (message_no_memory kind m, m) refl

pub body_completion : (kind : Kind) (bytes : List ℕ) → is_completion kind ≡ true → body_at kind bytes ≡ Completion (be_u16_at bytes 4) (unwrap_or (status_at bytes) SC) (bits (slice_index bytes 6) 0 4 * 256 + slice_index bytes 7) (slice_index bytes 11 % 128)
body_completion kind bytes m = rw (completion_no_memory kind m, completion_no_message kind m, m) refl

pub body_atomic : (kind : Kind) (bytes : List ℕ) → is_fetch_add kind ≡ true → body_at kind bytes ≡ Atomic (address_at bytes)
body_atomic kind bytes a = rw (fetch_add_no_memory kind a, fetch_add_no_message kind a, fetch_add_no_completion kind a, a) refl

pub body_request : (kind : Kind) (bytes : List ℕ) → is_memory kind ≡ false → is_message kind ≡ false → is_completion kind ≡ false → is_fetch_add kind ≡ false → body_at kind bytes ≡ Request
body_request kind bytes m n c a = rw (m, n, c, a) refl

pub address_wide : (bytes : List ℕ) → has_4dw_header_at bytes ≡ true → address_at bytes ≡ from_be_bytes w64 (slice_index bytes 8 ∷ slice_index bytes 9 ∷ slice_index bytes 10 ∷ slice_index bytes 11 ∷ slice_index bytes 12 ∷ slice_index bytes 13 ∷ slice_index bytes 14 ∷ slice_index bytes 15 ∷ [])
unfolding address_at
address_wide bytes e = rw e refl

pub address_narrow : (bytes : List ℕ) → has_4dw_header_at bytes ≡ false → address_at bytes ≡ from_be_bytes w32 (slice_index bytes 8 ∷ slice_index bytes 9 ∷ slice_index bytes 10 ∷ slice_index bytes 11 ∷ [])
unfolding address_at
address_narrow bytes e = rw e refl

module _ (kind : Kind) (attributes : Attributes) (at : AddressType) (len : ℕ) (len_fits : len < 1024) (requester tag : ℕ) (payload : List ℕ) where
  abbrev read_as : Bool → Body → Packet
  read_as wide body = record { kind = kind; has_4dw_header = wide; attributes = attributes; address_type = at; length = len; requester = requester; tag = tag; body = body; payload = payload }

  -- the bytes of a request, from Requester ID on
  abbrev request_bytes : Bool → ℕ → List ℕ → List ℕ
  request_bytes wide routing rest = bytes_of kind wide attributes at len routing (requester / 256 ∷ requester % 256 ∷ tag ∷ rest)

  requester_again : (wide : Bool) (routing : ℕ) (rest : List ℕ) → is_completion kind ≡ false → cond (is_completion kind) (be_u16_at (request_bytes wide routing rest) 8) (be_u16_at (request_bytes wide routing rest) 4) ≡ requester
  requester_again wide routing rest other = cond-false (is_completion kind) (be_u16_at (request_bytes wide routing rest) 8) (be_u16_at (request_bytes wide routing rest) 4) other ∙ word_again requester

  tag_again : (wide : Bool) (routing : ℕ) (rest : List ℕ) → is_completion kind ≡ false → cond (is_completion kind) (slice_index (request_bytes wide routing rest) 10) (slice_index (request_bytes wide routing rest) 6) ≡ tag
  tag_again wide routing rest other = cond-false (is_completion kind) (slice_index (request_bytes wide routing rest) 10) tag other

  enables_again : (wide : Bool) (routing : ℕ) (enables : Enables) (rest : List ℕ) → enables.first < 16 → enables_at (request_bytes wide routing ((16 * enables.last + enables.first) ∷ rest)) ≡ enables
  enables_again wide routing enables rest h =
      let f : (16 * enables.last + enables.first) % 16 ≡ enables.first = omega arith in
      let l : (16 * enables.last + enables.first) / 16 ≡ enables.last = omega arith in
      λ i. record { first = f i; last = l i }

  module _ (enables : Enables) (address : ℕ) (memory : is_memory kind ≡ true) (first_fits : enables.first < 16) where
    memory_body : (wide : Bool) (rest : List ℕ) → has_form kind wide ≡ true → drop (cond wide 16 12) (request_bytes wide 0 ((16 * enables.last + enables.first) ∷ rest)) ≡ payload
        → address_at (request_bytes wide 0 ((16 * enables.last + enables.first) ∷ rest)) ≡ address
        → packet_of (request_bytes wide 0 ((16 * enables.last + enables.first) ∷ rest)) ≡ read_as wide (Memory enables address)
    memory_body wide rest form after found =
        let cells : List ℕ = (16 * enables.last + enables.first) ∷ rest in
        let other = memory_no_completion kind memory in
        let named = enables_again wide 0 enables rest first_fits in
        let is_body : body_at kind (request_bytes wide 0 cells) ≡ Memory enables address = body_memory kind (request_bytes wide 0 cells) memory ∙ (λ i. Memory (named i) (found i)) in
        packet_again kind wide attributes at len form len_fits 0 (omega arith) (requester / 256 ∷ requester % 256 ∷ tag ∷ cells) requester tag (Memory enables address) payload
        (requester_again wide 0 cells other) (tag_again wide 0 cells other) is_body after

    memory_wide : has_form kind true ≡ true → address < 2 ^ 64 → packet_of (header (read_as true (Memory enables address)) [] ++ payload) ≡ read_as true (Memory enables address)
    memory_wide form fits =
        let rest = to_be_bytes w64 address ++ payload in
        let cells : List ℕ = (16 * enables.last + enables.first) ∷ rest in
        let e = wide_again kind true 0 (omega arith) in
        memory_body true rest form refl (address_wide (request_bytes true 0 cells) e ∙ from_be_bytes-to_be_bytes_8 address fits)

    memory_narrow : has_form kind false ≡ true → address < 2 ^ 32 → packet_of (header (read_as false (Memory enables address)) [] ++ payload) ≡ read_as false (Memory enables address)
    memory_narrow form fits =
        let rest = to_be_bytes w32 address ++ payload in
        let cells : List ℕ = (16 * enables.last + enables.first) ∷ rest in
        let e = wide_again kind false 0 (omega arith) in
        memory_body false rest form refl (address_narrow (request_bytes false 0 cells) e ∙ from_be_bytes-to_be_bytes_4 address fits)

  -- byte 7 of a FetchAdd has no field
  module _ (byte_7 : ℕ) (address : ℕ) (atomic : is_fetch_add kind ≡ true) where
    atomic_body : (wide : Bool) (rest : List ℕ) → has_form kind wide ≡ true → drop (cond wide 16 12) (request_bytes wide 0 (byte_7 ∷ rest)) ≡ payload
        → address_at (request_bytes wide 0 (byte_7 ∷ rest)) ≡ address → packet_of (request_bytes wide 0 (byte_7 ∷ rest)) ≡ read_as wide (Atomic address)
    atomic_body wide rest form after found =
        let cells : List ℕ = byte_7 ∷ rest in
        let other = fetch_add_no_completion kind atomic in
        let is_body : body_at kind (request_bytes wide 0 cells) ≡ Atomic address = body_atomic kind (request_bytes wide 0 cells) atomic ∙ ap Atomic found in
        packet_again kind wide attributes at len form len_fits 0 (omega arith) (requester / 256 ∷ requester % 256 ∷ tag ∷ cells) requester tag (Atomic address) payload
        (requester_again wide 0 cells other) (tag_again wide 0 cells other) is_body after

    atomic_wide : has_form kind true ≡ true → address < 2 ^ 64 → packet_of (header (read_as true (Atomic address)) (byte_7 ∷ []) ++ payload) ≡ read_as true (Atomic address)
    atomic_wide form fits =
        let rest = to_be_bytes w64 address ++ payload in
        let e = wide_again kind true 0 (omega arith) in
        atomic_body true rest form refl (address_wide (request_bytes true 0 (byte_7 ∷ rest)) e ∙ from_be_bytes-to_be_bytes_8 address fits)

    atomic_narrow : has_form kind false ≡ true → address < 2 ^ 32 → packet_of (header (read_as false (Atomic address)) (byte_7 ∷ []) ++ payload) ≡ read_as false (Atomic address)
    atomic_narrow form fits =
        let rest = to_be_bytes w32 address ++ payload in
        let e = wide_again kind false 0 (omega arith) in
        atomic_body false rest form refl (address_narrow (request_bytes false 0 (byte_7 ∷ rest)) e ∙ from_be_bytes-to_be_bytes_4 address fits)

  module _ (unused : List ℕ) where
    unused_after : (wide : Bool) (routing : ℕ) → length unused ≡ cond wide 9 5 → drop (cond wide 16 12) (request_bytes wide routing (unused ++ payload)) ≡ payload
    unused_after true routing long = drop_at unused payload 9 long
    unused_after false routing long = drop_at unused payload 5 long

    request_body : (wide : Bool) (body : Body) (routing : ℕ) → has_form kind wide ≡ true → routing < 8 → is_completion kind ≡ false → length unused ≡ cond wide 9 5
        → body_at kind (request_bytes wide routing (unused ++ payload)) ≡ body → packet_of (request_bytes wide routing (unused ++ payload)) ≡ read_as wide body
    request_body wide body routing form fits other long is_body =
        packet_again kind wide attributes at len form len_fits routing fits (requester / 256 ∷ requester % 256 ∷ tag ∷ (unused ++ payload)) requester tag body payload
        (requester_again wide routing (unused ++ payload) other) (tag_again wide routing (unused ++ payload) other) is_body (unused_after wide routing long)

    message_body : (wide : Bool) (routing : ℕ) → is_message kind ≡ true → has_form kind wide ≡ true → routing < 8 → length unused ≡ cond wide 9 5
        → packet_of (header (read_as wide (Message routing)) unused ++ payload) ≡ read_as wide (Message routing)
    message_body wide routing message form fits long =
        request_body wide (Message routing) routing form fits (message_no_completion kind message) long
        (body_message kind (request_bytes wide routing (unused ++ payload)) message ∙ ap Message (routing_again kind wide routing message fits))

    other_body : (wide : Bool) → is_memory kind ≡ false → is_message kind ≡ false → is_completion kind ≡ false → is_fetch_add kind ≡ false → has_form kind wide ≡ true → length unused ≡ cond wide 9 5
        → packet_of (header (read_as wide Request) unused ++ payload) ≡ read_as wide Request
    other_body wide memory message completion atomic form long =
        request_body wide Request 0 form (omega arith) completion long (body_request kind (request_bytes wide 0 (unused ++ payload)) memory message completion atomic)

    completion_body : (completer : ℕ) (status : Status) (count lower : ℕ) → is_completion kind ≡ true → has_form kind false ≡ true → count < 4096 → lower < 128 → length unused < 2
        → packet_of (header (read_as false (Completion completer status count lower)) unused ++ payload) ≡ read_as false (Completion completer status count lower)
    completion_body completer status count lower completion form count_fits lower_fits long =
        let s = status_small status in
        let status_is : (32 * status_bits status + count / 256) / 32 ≡ status_bits status = omega (arith, s) in
        let count_is : bits (32 * status_bits status + count / 256) 0 4 * 256 + count % 256 ≡ count = omega (arith, s) in
        let lower_is : (128 * length unused + lower) % 128 ≡ lower = omega arith in
        let named : unwrap_or (status_of ((32 * status_bits status + count / 256) / 32)) SC ≡ status = ap (λ n. unwrap_or (status_of n) SC) status_is ∙ ap (λ s. unwrap_or s SC) (status_again status) in
        let rest : List ℕ = completer / 256 ∷ completer % 256 ∷ (32 * status_bits status + count / 256) ∷ count % 256 ∷ requester / 256 ∷ requester % 256 ∷ tag ∷ (128 * length unused + lower) ∷ payload in
        let all = bytes_of kind false attributes at len 0 rest in
        let is_body : body_at kind all ≡ Completion completer status count lower = body_completion kind all completion ∙ (λ i. Completion (word_again completer i) (named i) (count_is i) (lower_is i)) in
        packet_again kind false attributes at len form len_fits 0 (omega arith) rest requester tag (Completion completer status count lower) payload
        (cond-true (is_completion kind) (be_u16_at all 8) (be_u16_at all 4) completion ∙ word_again requester) (cond-true (is_completion kind) tag (slice_index all 6) completion) is_body refl

  again_of : (wide : Bool) (body : Body) (unused : List ℕ) → has_form kind wide ≡ true → BodyFits kind wide body → HasUnused body wide unused → packet_of (header (read_as wide body) unused ++ payload) ≡ read_as wide body
  again_of true (Memory enables address) unused form fits none = memory_wide enables address fits.0 fits.1 form fits.3
  again_of false (Memory enables address) unused form fits none = memory_narrow enables address fits.0 fits.1 form fits.3
  again_of wide (Atomic address) [] form fits long = absurd cc
  again_of true (Atomic address) (byte_7 ∷ []) form fits long = atomic_wide byte_7 address fits.0 form fits.1
  again_of false (Atomic address) (byte_7 ∷ []) form fits long = atomic_narrow byte_7 address fits.0 form fits.1
  again_of wide (Atomic address) (byte_7 ∷ other ∷ more) form fits long = absurd (omega (arith, long))
  again_of wide (Message routing) unused form fits long = message_body unused wide routing fits.0 form fits.1 long
  again_of wide Request unused form fits long = other_body unused wide fits.0 fits.1 fits.2 fits.3 form long
  again_of true (Completion completer status count lower) unused form fits long = absurd (completion_is_narrow kind fits.0 form)
  again_of false (Completion completer status count lower) unused form fits long = completion_body unused completer status count lower fits.0 form fits.2 fits.3 long

-- a packet's bytes are read as that packet
pub packet_of-header : (t : Packet) (unused : List ℕ) → Fits t → HasUnused t.body t.has_4dw_header unused → packet_of (header t unused ++ t.payload) ≡ t
packet_of-header t unused fits u = again_of t.kind t.attributes t.address_type t.length fits.length t.requester t.tag t.payload t.has_4dw_header t.body unused fits.form fits.body u

pub packet_of-spelled : (bytes : List ℕ) (t : Packet) → Spells bytes t → packet_of bytes ≡ t
packet_of-spelled bytes t s = ap packet_of s.put_together ∙ packet_of-header t s.unused s.fits s.has_unused

-- a byte list spells at most one packet
pub spelled_once : (bytes : List ℕ) (t u : Packet) → Spells bytes t → Spells bytes u → t ≡ u
spelled_once bytes t u s r = sym (packet_of-spelled bytes t s) ∙ packet_of-spelled bytes u r
