-- The bytes of completions and requests that a domain makes are well formed.
use Rattle.std.proofs.Common.{◌≡◌, ℕ, zero, suc, ◌+◌, ◌-◌, ◌*◌, ◌/◌, ◌%◌, ◌^◌, ◌<◌, ◌≤◌, ◌==◌, ◌&&◌, Bool, true, false, cond, nat_lt, List, ◌∷◌, ◌++◌, length, slice_index, Option, Some, None, refl, sym, ap, ◌∙◌, subst, arith}
use Rattle.std.specs.Prelude.{unwrap_or}
use Rattle.std.proofs.lemmas.Bool.{and_right, cond-false, false≢true, ltb-true, ne_eqb}
use Rattle.std.proofs.lemmas.Nat.{from_be_bytes-to_be_bytes_4, from_be_bytes-to_be_bytes_8}
use Rattle.fab_types.specs.declared.faults.malformed.Malformed.TheVariants.{Short, Size, Enables as BadEnables, Crosses, HighForm, Field}
use Rattle.fab_types.specs.declared.head.AddressType.{AddressType}
use Rattle.fab_types.specs.declared.head.AddressType.TheVariants.{Untranslated}
use Rattle.fab_types.specs.declared.status.Status.TheVariants.{SC}
use Rattle.function.specs.Accesses.{IsAccess, IsAccessKind}
use Rattle.tlp_view.specs.declared.attributes.Attributes.{Attributes}
use Rattle.tlp_view.specs.declared.completion.CompletionHead.{CompletionHead}
use Rattle.tlp_view.specs.declared.enables.Enables.{Enables}
use Rattle.tlp_view.specs.declared.kind.Kind.{Kind}
use Rattle.tlp_view.specs.declared.kind.Kind.TheVariants.{Cpl, CplD}
use Rattle.tlp_view.specs.declared.request.RequestHead.{RequestHead}
use Rattle.tlp_view.specs.Bytes.{address_at, bits, enables_at, fmt_at, is_set, has_4dw_header_at, length_at, packet_of, packet_of_kind, type_at}
use Rattle.tlp_view.specs.Completions.{atomic_completion, byte_count, completion, completion_bytes, data_body, first_place, last_end, lower_address, read_completion}
use Rattle.tlp_view.specs.Kinds.{has_address, is_memory, kind_at}
use Rattle.tlp_view.specs.Malformed.{crosses, has_bad_common, has_bad_enables, has_bad_field, has_bad_size, is_short, malformed, malformed_of_kind}
use Rattle.tlp_view.specs.Packet.{Body, Completion, Packet, address_in, dw_count, enables_in}
use Rattle.tlp_view.specs.Requests.{RequestFits, all_enabled, is_high, moved, moved_body, packet_bytes}
use Rattle.tlp_view.specs.Spelling.{address_bytes, address_type_bits, flag}
use Rattle.tlp_view.specs.View.{IsView}
use Rattle.tlp_view.proofs.Again.{address_narrow, address_type_small, address_wide, body_memory}
use Rattle.tlp_view.proofs.Completed.{completion_well_formed}
use Rattle.tlp_view.proofs.KindFacts.{flag_small, wide_again}
use Rattle.tlp_view.proofs.Moved.{moved_made}
use Rattle.tlp_view.proofs.Requested.{all_fine, request_well_formed}
use Rattle.tlp_view.proofs.Sound.{aligned_within, second_false}
use Rattle.tlp_view.proofs.WellFormed.{passes, view_of}
use Rattle.guarded_routes.proofs.Spelled.{kind_is, request as spelled}

-- ---- completions

end_small : (a b c d : Bool) → cond a 4 (cond b 3 (cond c 2 (cond d 1 0))) ≤ 4
end_small true b c d = omega arith
end_small false true c d = omega arith
end_small false false true d = omega arith
end_small false false false true = omega arith
end_small false false false false = omega arith

place_small : (a b c d : Bool) → cond a 0 (cond b 1 (cond c 2 (cond d 3 0))) ≤ 3
place_small true b c d = omega arith
place_small false true c d = omega arith
place_small false false true d = omega arith
place_small false false false true = omega arith
place_small false false false false = omega arith

last_small : (field : ℕ) → last_end field ≤ 4
last_small field = end_small (is_set field 3) (is_set field 2) (is_set field 1) (is_set field 0)

first_small : (field : ℕ) → first_place field ≤ 3
first_small field = place_small (is_set field 0) (is_set field 1) (is_set field 2) (is_set field 3)

counts_small : (one none : Bool) (n first last place : ℕ) → n ≤ 252 → first ≤ 4 → last ≤ 4 → cond one (cond none 1 (first - place)) (n + last - place) < 2 ^ 12
counts_small true true n first last place a b c = omega arith
counts_small true false n first last place a b c = omega (arith, b)
counts_small false none n first last place a b c = omega (arith, a, c)

-- what the completion of a read of at most 64 DW shows of it
record Shows (completer count : ℕ) (enables : Option Enables) (address : Option ℕ) : Type 0 where
  bytes : ℕ
  lower : ℕ
  body : data_body completer count enables address ≡ Completion completer SC bytes lower
  few : bytes < 2 ^ 12
  low : lower < 2 ^ 7

shows : (completer count : ℕ) (enables : Option Enables) (address : Option ℕ) → count ≤ 64 → Shows completer count enables address
shows completer count (Some enables) (Some address) small = record {
  bytes = byte_count enables count;
  lower = lower_address enables address;
  body = refl;
  few = counts_small (count == 1) (enables.first == 0) (4 * (count - 1)) (last_end enables.first) (last_end enables.last) (first_place enables.first) (omega (arith, small)) (last_small enables.first) (last_small enables.last);
  low = omega (arith, first_small enables.first);
}
shows completer count None address small = record { bytes = 4; lower = 0; body = refl; few = omega arith; low = omega arith }
shows completer count (Some enables) None small = record { bytes = 4; lower = 0; body = refl; few = omega arith; low = omega arith }

-- the completion of a read of at most 64 DW, and how long it is
pub read_well : (completer : ℕ) (t : Packet) (bytes : List ℕ) → 1 ≤ dw_count t.length → dw_count t.length ≤ 64 → length bytes ≡ 4 * dw_count t.length
    → (malformed (completion_bytes (read_completion completer t bytes)) ≡ None) × (length (completion_bytes (read_completion completer t bytes)) ≡ 12 + length bytes)
read_well completer t bytes some few long =
    let count = dw_count t.length in
    let s = shows completer count (enables_in t.body) (address_in t.body) few in
    let head : CompletionHead = record { completer = completer; status = SC; byte_count = s.bytes; requester = t.requester; tag = t.tag; lower_address = s.lower; attributes = t.attributes } in
    let kind : cond (count == 0) Cpl CplD ≡ CplD = ap (λ (b : Bool). cond b Cpl CplD) (ne_eqb count 0 (λ e. omega (arith, e, some))) in
    let whole : length bytes / 4 ≡ count = omega (arith, long) in
    let same : completion_bytes (read_completion completer t bytes) ≡ completion_bytes (completion head count bytes) =
    λ i. completion_bytes (record { kind = sym kind i; has_4dw_header = false; attributes = t.attributes; address_type = Untranslated; length = whole i; requester = t.requester; tag = t.tag; body = s.body i; payload = bytes }) in
    let size : length (completion_bytes (completion head count bytes)) ≡ 12 + length bytes = omega arith in
    (ap malformed same ∙ completion_well_formed head bytes (record { byte_count = s.few; lower_address = s.low }) count few long, ap (λ (bs : List ℕ). length bs) same ∙ size)

-- the same of the completion of an AtomicOp
pub atomic_well : (completer : ℕ) (t : Packet) (bytes : List ℕ) → 1 ≤ dw_count t.length → dw_count t.length ≤ 64 → length bytes ≡ 4 * dw_count t.length
    → (malformed (completion_bytes (atomic_completion completer t bytes)) ≡ None) × (length (completion_bytes (atomic_completion completer t bytes)) ≡ 12 + length bytes)
atomic_well completer t bytes some few long =
    let count = dw_count t.length in
    let head : CompletionHead = record { completer = completer; status = SC; byte_count = length bytes; requester = t.requester; tag = t.tag; lower_address = 0; attributes = t.attributes } in
    let kind : cond (count == 0) Cpl CplD ≡ CplD = ap (λ (b : Bool). cond b Cpl CplD) (ne_eqb count 0 (λ e. omega (arith, e, some))) in
    let whole : length bytes / 4 ≡ count = omega (arith, long) in
    let same : completion_bytes (atomic_completion completer t bytes) ≡ completion_bytes (completion head count bytes) =
    λ i. completion_bytes (record { kind = sym kind i; has_4dw_header = false; attributes = t.attributes; address_type = Untranslated; length = whole i; requester = t.requester; tag = t.tag; body = Completion completer SC (length bytes) 0; payload = bytes }) in
    let size : length (completion_bytes (completion head count bytes)) ≡ 12 + length bytes = omega arith in
    (ap malformed same ∙ completion_well_formed head bytes (record { byte_count = omega (arith, long, few); lower_address = omega arith }) count few long, ap (λ (bs : List ℕ). length bs) same ∙ size)

-- ---- requests

counted : (n : ℕ) → n < 1024 → (1 ≤ dw_count n) × (dw_count n ≤ 1024) × (dw_count n % 1024 ≡ n)
counted zero small = (omega arith, omega arith, refl)
counted (suc n) small =
    let is : dw_count (suc n) ≡ suc n = cond-false _ _ _ (ne_eqb (suc n) 0 (λ e. omega (arith, e))) in
    (omega (arith, is), omega (arith, is, small), omega (arith, is, small))

-- the Length field
length_again : (r n : Bool) (at : AddressType) (len : ℕ) → len < 1024 → bits (32 * flag r + 16 * flag n + 4 * address_type_bits at + len / 256) 0 2 * 256 + len % 256 ≡ len
length_again r n at len small = let f = flag_small r in let g = flag_small n in let t = address_type_small at in omega (arith, f, g, t)

-- a request that is made is read as an access if it was made as one
pub made_access : (kind : Kind) (wide : Bool) (attributes : Attributes) (at : AddressType) (length requester tag : ℕ) (enables : Enables) (address : ℕ) (payload : List ℕ) → is_memory kind ≡ true → length < 1024 → IsAccessKind kind (dw_count length)
    → IsAccess (packet_of (packet_bytes (spelled kind wide attributes at length requester tag enables address payload)))
made_access kind wide attributes at length requester tag enables address payload memory small access =
    subst IsAccess (sym (kind_is kind attributes at length requester tag enables address payload memory wide))
    (subst (λ (n : ℕ). IsAccessKind kind (dw_count n)) (sym (length_again attributes.relaxed_ordering attributes.no_snoop at length small)) access)

enabled_small : (count : ℕ) (one : Bool) → cond one 0 15 < 16
enabled_small count true = omega arith
enabled_small count false = omega arith

-- with all bytes enabled
pub all_fits : (head : RequestHead) (count : ℕ) → head.enables ≡ all_enabled count → 1 ≤ count → count ≤ 1024 → head.address % 4 ≡ 0 → head.address % 4096 + 4 * count ≤ 4096 → RequestFits head count
all_fits head count enables some most aligned within = record {
  some = some;
  most = most;
  first = subst (λ (e : Enables). e.first < 16) (sym enables) (omega arith);
  last = subst (λ (e : Enables). e.last < 16) (sym enables) (enabled_small count (count == 1));
  enables = subst (λ (e : Enables). has_bad_enables count head.address e.first e.last ≡ false) (sym enables) (all_fine count head.address some);
  aligned = aligned;
  within = within;
}

-- ---- byte 7, which only the enables are read from

module _ (b0 b1 b2 b3 b4 b5 b6 : ℕ) (rest : List ℕ) where
  abbrev with_byte : ℕ → List ℕ
  with_byte x = b0 ∷ b1 ∷ b2 ∷ b3 ∷ b4 ∷ b5 ∷ b6 ∷ x ∷ rest

  same_size : (kind : Kind) (x y : ℕ) → has_bad_size kind (with_byte x) ≡ has_bad_size kind (with_byte y)
  unfolding has_bad_size
  same_size kind x y = refl

  same_address : (x y : ℕ) → address_at (with_byte x) ≡ address_at (with_byte y)
  unfolding address_at
  same_address x y = refl

  same_field : (kind : Kind) (x y : ℕ) → has_bad_field kind (with_byte x) ≡ has_bad_field kind (with_byte y)
  unfolding has_bad_field has_bad_common address_at
  same_field kind x y = refl

  well_by : (kind : Kind) (y : ℕ) → is_short (with_byte y) ≡ false → kind_at (fmt_at (with_byte y)) (type_at (with_byte y)) ≡ Some kind → has_bad_size kind (with_byte y) ≡ false
      → (is_memory kind && has_bad_enables (dw_count (length_at (with_byte y))) (address_at (with_byte y)) (y % 16) (y / 16)) ≡ false
      → (is_memory kind && crosses (dw_count (length_at (with_byte y))) (address_at (with_byte y))) ≡ false
      → (has_address kind && has_4dw_header_at (with_byte y) && nat_lt (address_at (with_byte y)) (2 ^ 32)) ≡ false
      → has_bad_field kind (with_byte y) ≡ false → malformed (with_byte y) ≡ None
  unfolding malformed malformed_of_kind
  well_by kind y long is_kind size enables within high field = rw (long, is_kind, size, enables, within, high, field) refl

  swapped_by : (kind : Kind) (x y : ℕ) → is_short (with_byte x) ≡ false → kind_at (fmt_at (with_byte x)) (type_at (with_byte x)) ≡ Some kind → malformed_of_kind kind (with_byte x) ≡ None
      → has_bad_enables (dw_count (length_at (with_byte y))) (address_at (with_byte y)) (y % 16) (y / 16) ≡ false → malformed (with_byte y) ≡ None
  unfolding malformed_of_kind
  swapped_by kind x y long is_kind fine enables =
      let first = passes (has_bad_size kind (with_byte x)) Size _ fine in
      let second = passes _ BadEnables _ first.1 in
      let third = passes _ Crosses _ second.1 in
      let fourth = passes _ HighForm _ third.1 in
      let fifth = passes (has_bad_field kind (with_byte x)) Field None fourth.1 in
      let same = same_address x y in
      well_by kind y long is_kind (same_size kind y x ∙ first.0) (and_right (is_memory kind) _ enables)
      (ap (λ (a : ℕ). is_memory kind && crosses (dw_count (length_at (with_byte y))) a) (sym same) ∙ third.0)
      (ap (λ (a : ℕ). has_address kind && has_4dw_header_at (with_byte y) && nat_lt a (2 ^ 32)) (sym same) ∙ fourth.0)
      (same_field kind y x ∙ fifth.0)

  -- other enables that fit leave the packet well formed
  pub swapped : (x y : ℕ) → malformed (with_byte x) ≡ None → has_bad_enables (dw_count (length_at (with_byte y))) (address_at (with_byte y)) (y % 16) (y / 16) ≡ false → malformed (with_byte y) ≡ None
  unfolding malformed
  swapped x y well enables =
      let found = view_of (with_byte x) well in
      swapped_by found.0 x y (passes (is_short (with_byte x)) Short _ well).0 found.1.kind_is found.2 enables

-- ---- a request at another address

address_again : (kind : Kind) (attributes : Attributes) (at : AddressType) (length requester tag : ℕ) (enables : Enables) (address : ℕ) (payload : List ℕ) (wide : Bool) → is_high address ≡ wide → address < 2 ^ 64
    → address_at (packet_bytes (spelled kind wide attributes at length requester tag enables address payload)) ≡ address
address_again kind attributes at length requester tag enables address payload true high small =
    address_wide (packet_bytes (spelled kind true attributes at length requester tag enables address payload)) (wide_again kind true 0 (omega arith)) ∙ from_be_bytes-to_be_bytes_8 address small
address_again kind attributes at length requester tag enables address payload false high small =
    address_narrow (packet_bytes (spelled kind false attributes at length requester tag enables address payload)) (wide_again kind false 0 (omega arith)) ∙ from_be_bytes-to_be_bytes_4 address (low (nat_lt address (2 ^ 32)) refl high)
  where
    low : (b : Bool) → nat_lt address (2 ^ 32) ≡ b → cond b false true ≡ false → address < 2 ^ 32
    low true e h = ltb-true address (2 ^ 32) e
    low false e h = absurd (false≢true (sym h))

-- enables look at the place in 8 bytes alone
same_enables : (count a b first last : ℕ) → a % 8 ≡ b % 8 → has_bad_enables count a first last ≡ has_bad_enables count b first last
unfolding has_bad_enables
same_enables count a b first last same = rw same refl

module _ (kind : Kind) (bytes : List ℕ) (view : IsView kind bytes) (fine : malformed_of_kind kind bytes ≡ None) (memory : is_memory kind ≡ true) (address : ℕ) (place : address % 4096 ≡ address_at bytes % 4096) (small : address < 2 ^ 64) (few : length_at bytes < 1024) where
  abbrev t : Packet
  t = packet_of_kind kind bytes

  abbrev spelled_with : Enables → List ℕ
  spelled_with enables = packet_bytes (spelled kind (is_high address) t.attributes t.address_type t.length t.requester t.tag enables address t.payload)

  place_in : address % 4096 ≡ unwrap_or (address_in t.body) 0 % 4096
  place_in = place ∙ ap (λ (b : Body). unwrap_or (address_in b) 0 % 4096) (sym (body_memory kind bytes memory))

  all_well : malformed (spelled_with (all_enabled (dw_count t.length))) ≡ None
  all_well =
      let count = dw_count t.length in
      let many = counted t.length few in
      let whole = aligned_within kind bytes fine memory in
      let head : RequestHead = record { requester = t.requester; tag = t.tag; enables = all_enabled count; address = address; address_type = t.address_type; attributes = t.attributes } in
      let fits = all_fits head count refl many.0 many.1 (omega (arith, place, whole.0)) (omega (arith, place, whole.1)) in
      subst (λ (n : ℕ). malformed (packet_bytes (spelled kind (is_high address) t.attributes t.address_type n t.requester t.tag (all_enabled count) address t.payload)) ≡ None) many.2
      (request_well_formed kind head count t.payload (moved_made kind bytes view memory address place_in) fits small)

  enables_fine : has_bad_enables (dw_count t.length) address (enables_at bytes).first (enables_at bytes).last ≡ false
  unfolding malformed_of_kind
  enables_fine =
      let first = passes (has_bad_size kind bytes) Size _ fine in
      let eight : address % 8 ≡ address_at bytes % 8 = omega (arith, place) in
      same_enables (dw_count t.length) address (address_at bytes) (slice_index bytes 7 % 16) (slice_index bytes 7 / 16) eight ∙ second_false (is_memory kind) _ memory (passes _ BadEnables _ first.1).0

  enables_read : has_bad_enables (dw_count (length_at (spelled_with (enables_at bytes)))) (address_at (spelled_with (enables_at bytes))) ((16 * (enables_at bytes).last + (enables_at bytes).first) % 16) ((16 * (enables_at bytes).last + (enables_at bytes).first) / 16) ≡ false
  enables_read =
      let e = enables_at bytes in
      let length : length_at (spelled_with e) ≡ t.length = length_again t.attributes.relaxed_ordering t.attributes.no_snoop t.address_type t.length few in
      let here : address_at (spelled_with e) ≡ address = address_again kind t.attributes t.address_type t.length t.requester t.tag e address t.payload (is_high address) refl small in
      let first : (16 * e.last + e.first) % 16 ≡ e.first = omega arith in
      let last : (16 * e.last + e.first) / 16 ≡ e.last = omega arith in
      (λ i. has_bad_enables (dw_count (length i)) (here i) (first i) (last i)) ∙ enables_fine

  spelled_well : malformed (spelled_with (enables_at bytes)) ≡ None
  spelled_well =
      let all = all_enabled (dw_count t.length) in
      let e = enables_at bytes in
      swapped (slice_index (spelled_with e) 0) (slice_index (spelled_with e) 1) (slice_index (spelled_with e) 2) (slice_index (spelled_with e) 3) (slice_index (spelled_with e) 4) (slice_index (spelled_with e) 5) (slice_index (spelled_with e) 6)
      (address_bytes (is_high address) address ++ t.payload) (16 * all.last + all.first) (16 * e.last + e.first) all_well enables_read

  moved_is : packet_bytes (moved t address) ≡ spelled_with (enables_at bytes)
  moved_is = ap (λ (b : Body). packet_bytes (record { kind = kind; has_4dw_header = is_high address; attributes = t.attributes; address_type = t.address_type; length = t.length; requester = t.requester; tag = t.tag; body = moved_body b address; payload = t.payload })) (body_memory kind bytes memory)

  -- it is as well formed as it was, and an access if it was one
  pub moved_well : malformed (packet_bytes (moved t address)) ≡ None
  moved_well = ap malformed moved_is ∙ spelled_well

  pub moved_access : IsAccess t → IsAccess (packet_of (packet_bytes (moved t address)))
  moved_access access =
      subst (λ (bs : List ℕ). IsAccess (packet_of bs)) (sym moved_is)
      (made_access kind (is_high address) t.attributes t.address_type t.length t.requester t.tag (enables_at bytes) address t.payload memory few access)
