-- A memory request that was made is well formed, and its bytes spell it.
use Rattle.std.proofs.Common.{◌≡◌, ℕ, zero, suc, ◌+◌, ◌*◌, ◌/◌, ◌%◌, ◌^◌, ◌<◌, ◌≤◌, Bool, true, false, not, ◌||◌, ◌&&◌, cond, eqb, ltb, List, [], ◌∷◌, ◌++◌, length, take, drop, slice_index, None, Some, refl, sym, ap, ◌∙◌, subst, inl, inr, arith}
use Rattle.std.proofs.lemmas.Bool.{le-ltb, eq-eqb, ne_eqb, or_from, and_left, and_right, cond-false, ltb-true, ltb-false, cases_lt}
use Rattle.std.proofs.lemmas.Nat.{from_be_bytes-to_be_bytes_4, from_be_bytes-to_be_bytes_8}
use Rattle.fab_types.specs.declared.head.AddressType.{AddressType}
use Rattle.tlp_view.specs.declared.kind.Kind.{Kind}
use Rattle.tlp_view.specs.declared.kind.Kind.TheVariants.{MRd, MWr}
use Rattle.tlp_view.specs.declared.request.RequestHead.{RequestHead}
use Rattle.tlp_view.specs.Packet.{Packet, dw_count}
use Rattle.tlp_view.specs.Kinds.{kind_at, has_data, has_address, is_memory, is_fetch_add, is_completion, is_one_dw}
use Rattle.tlp_view.specs.Bytes.{bits, is_set, has_4dw_header_at, fmt_at, type_at, length_at, address_at, header_len, packet_of}
use Rattle.tlp_view.specs.Malformed.{is_short, data_len, has_bad_size, has_bad_enables, crosses, has_bad_common, has_bad_field, unit_of, malformed_of_kind, malformed}
use Rattle.tlp_view.specs.Spelling.{flag, address_type_bits, address_bytes, header, Fits, Spells}
use Rattle.tlp_view.specs.Requests.{is_high, request, packet_bytes, all_enabled, RequestFits}
use Rattle.tlp_view.specs.RequestBuffer.{IsMade, IsRequestBuffer}
use Rattle.tlp_view.proofs.KindFacts.{flag_small, kind_again, wide_again, memory_no_completion, memory_no_fetch_add}
use Rattle.tlp_view.proofs.Again.{packet_of-header, address_wide, address_narrow, address_type_small}

-- all bytes of a count of DW are well enabled
pub all_fine : (count address : ℕ) → 0 < count → has_bad_enables count address 15 (all_enabled count).last ≡ false
unfolding has_bad_enables
all_fine zero address some = absurd (omega (arith, some))
all_fine (suc zero) address some = refl
all_fine (suc (suc n)) address some =
    let not_one : eqb (suc (suc n)) 1 ≡ false = ne_eqb _ _ (λ e. omega (arith, e)) in
    rw not_one (or_from _ _ (and_right _ _ refl) (and_right _ _ refl))

well_formed_by : (kind : Kind) (bytes : List ℕ) → is_short bytes ≡ false → kind_at (fmt_at bytes) (type_at bytes) ≡ Some kind → has_bad_size kind bytes ≡ false
    → (is_memory kind && has_bad_enables (dw_count (length_at bytes)) (address_at bytes) (slice_index bytes 7 % 16) (slice_index bytes 7 / 16)) ≡ false
    → (is_memory kind && crosses (dw_count (length_at bytes)) (address_at bytes)) ≡ false
    → (has_address kind && has_4dw_header_at bytes && ltb (address_at bytes) (2 ^ 32)) ≡ false
    → has_bad_field kind bytes ≡ false → malformed bytes ≡ None
unfolding malformed malformed_of_kind
well_formed_by kind bytes long is_kind size enables within high field = rw (long, is_kind, size, enables, within, high, field) refl

sized_well : (kind : Kind) (bytes : List ℕ) (h n : ℕ) → header_len bytes ≡ h → data_len kind bytes ≡ n → length bytes ≡ h + n → n ≤ 256 → is_one_dw kind ≡ false → is_fetch_add kind ≡ false → has_bad_size kind bytes ≡ false
unfolding has_bad_size
sized_well kind bytes h n header_is data_is whole small many plain =
    or_from _ _ (or_from _ _ (ap not (eq-eqb (length bytes) (header_len bytes + data_len kind bytes) (omega (arith, whole, header_is, data_is)))) (le-ltb 256 (data_len kind bytes) (omega (arith, small, data_is)))) (or_from _ _ (and_left _ _ many) (and_left _ _ (and_left _ _ plain)))

-- byte 1
fine_first : (i : Bool) → (is_set (4 * flag i) 7 || not (eqb (bits (4 * flag i) 4 3) 0) || is_set (4 * flag i) 3 || is_set (4 * flag i) 1 || is_set (4 * flag i) 0) ≡ false
fine_first true = refl
fine_first false = refl

abbrev byte_2 : Bool → Bool → AddressType → ℕ → ℕ
byte_2 r n at len = 32 * flag r + 16 * flag n + 4 * address_type_bits at + len / 256

fine_second : (r n : Bool) (at : AddressType) (len : ℕ) → len < 1024 → (is_set (byte_2 r n at len) 7 ≡ false) × (is_set (byte_2 r n at len) 6 ≡ false) × (bits (byte_2 r n at len) 0 2 * 256 + len % 256 ≡ len)
fine_second r n at len small =
    let f = flag_small r in
    let g = flag_small n in
    let t = address_type_small at in
    let seven : byte_2 r n at len / 128 % 2 ≡ 0 = omega (arith, f, g, t) in
    let six : byte_2 r n at len / 64 % 2 ≡ 0 = omega (arith, f, g, t) in
    (ap (λ k. eqb k 1) seven, ap (λ k. eqb k 1) six, omega (arith, f, g, t))

-- the first DW has no bit that this profile wants to be 0
fine_common : (b0 b3 : ℕ) (i r n : Bool) (at : AddressType) (len : ℕ) (rest : List ℕ) → len < 1024 → has_bad_common (b0 ∷ 4 * flag i ∷ byte_2 r n at len ∷ b3 ∷ rest) ≡ false
unfolding has_bad_common
fine_common b0 b3 i r n at len rest small =
    let second = fine_second r n at len small in
    or_from _ _ (or_from _ _ (fine_first i) second.0) second.1

counted : (count : ℕ) → 1 ≤ count → count ≤ 1024 → dw_count (count % 1024) ≡ count
counted count some most = elim (cases_lt count 1024) [
  | inl less ↦ (let same : count % 1024 ≡ count = omega (arith, less) in ap dw_count same ∙ cond-false _ _ _ (ne_eqb count 0 (λ e. omega (arith, e))))
  | inr all ↦ (let same : count ≡ 1024 = omega (arith, all) in rw same refl)
]

stays_within : (count address : ℕ) → address % 4 ≡ 0 → address % 4096 + 4 * count ≤ 4096 → crosses count address ≡ false
unfolding crosses
stays_within count address aligned within =
    let same : address / 4 * 4 ≡ address = omega (arith, aligned) in
    rw same (le-ltb 4096 _ within)

fine_field : (kind : Kind) (bytes : List ℕ) → has_bad_common bytes ≡ false → address_at bytes % 4 ≡ 0 → is_fetch_add kind ≡ false → is_completion kind ≡ false → has_bad_field kind bytes ≡ false
unfolding has_bad_field
fine_field kind bytes common aligned plain other =
    let whole : address_at bytes % unit_of kind (length_at bytes) ≡ 0 = ap (λ b. address_at bytes % cond (b && eqb (length_at bytes) 2) 8 4) plain ∙ aligned in
    or_from _ _ (or_from _ _ common (and_right _ _ (ap not (eq-eqb _ _ whole)))) (and_left _ _ other)

module _ (kind : Kind) (head : RequestHead) (count : ℕ) (payload : List ℕ) (made : IsMade kind count payload) (fits : RequestFits head count) where
  abbrev of_size : Bool → Packet
  of_size wide = record (request kind head count payload) { has_4dw_header = wide }

  abbrev bytes_of : Bool → List ℕ
  bytes_of wide = packet_bytes (of_size wide)

  field_small : count % 1024 < 1024
  field_small = omega arith

  is_wide_now : (wide : Bool) → has_4dw_header_at (bytes_of wide) ≡ wide
  is_wide_now wide = wide_again kind wide 0 (omega arith)

  count_now : (wide : Bool) → dw_count (length_at (bytes_of wide)) ≡ count
  count_now wide =
      let field : length_at (bytes_of wide) ≡ count % 1024 = (fine_second head.attributes.relaxed_ordering head.attributes.no_snoop head.address_type (count % 1024) field_small).2 in
      ap dw_count field ∙ counted count fits.some fits.most

  data_now : (wide : Bool) → data_len kind (bytes_of wide) ≡ length payload
  data_now wide = ap (λ n. cond (has_data kind) (4 * n) 0) (count_now wide) ∙ sym made.sized

  fine_at : (wide : Bool) (h : ℕ) → is_short (bytes_of wide) ≡ false → header_len (bytes_of wide) ≡ h → length (bytes_of wide) ≡ h + length payload → address_at (bytes_of wide) ≡ head.address
      → (has_address kind && has_4dw_header_at (bytes_of wide) && ltb (address_at (bytes_of wide)) (2 ^ 32)) ≡ false → malformed (bytes_of wide) ≡ None
  fine_at wide h long header whole address high =
      let first : (16 * head.enables.last + head.enables.first) % 16 ≡ head.enables.first = omega (arith, fits.first) in
      let last : (16 * head.enables.last + head.enables.first) / 16 ≡ head.enables.last = omega (arith, fits.first) in
      let enables : has_bad_enables (dw_count (length_at (bytes_of wide))) (address_at (bytes_of wide)) ((16 * head.enables.last + head.enables.first) % 16) ((16 * head.enables.last + head.enables.first) / 16) ≡ false =
      (λ i. has_bad_enables (count_now wide i) (address i) (first i) (last i)) ∙ fits.enables in
      let within : crosses (dw_count (length_at (bytes_of wide))) (address_at (bytes_of wide)) ≡ false = (λ i. crosses (count_now wide i) (address i)) ∙ stays_within count head.address fits.aligned fits.within in
      let common = fine_common (slice_index (bytes_of wide) 0) (slice_index (bytes_of wide) 3) head.attributes.id_based_ordering head.attributes.relaxed_ordering head.attributes.no_snoop head.address_type (count % 1024) (drop 4 (bytes_of wide)) field_small in
      well_formed_by kind (bytes_of wide) long (kind_again kind wide 0 (made.form wide) (omega arith))
      (sized_well kind (bytes_of wide) h (length payload) header (data_now wide) whole made.small made.many (memory_no_fetch_add kind made.memory))
      (and_right _ _ enables) (and_right _ _ within) high
      (fine_field kind (bytes_of wide) common (ap (λ a. a % 4) address ∙ fits.aligned) (memory_no_fetch_add kind made.memory) (memory_no_completion kind made.memory))

  wide_fine : 2 ^ 32 ≤ head.address → head.address < 2 ^ 64 → malformed (bytes_of true) ≡ None
  wide_fine high small =
      let is = is_wide_now true in
      let whole : length (bytes_of true) ≡ 16 + length payload = omega arith in
      let address = address_wide (bytes_of true) is ∙ from_be_bytes-to_be_bytes_8 head.address small in
      fine_at true 16 (or_from _ _ (le-ltb (length (bytes_of true)) 12 (omega (arith, whole))) (and_left _ _ (le-ltb (length (bytes_of true)) 16 (omega (arith, whole))))) (ap (λ w. cond w 16 12) is) whole address
      (and_right _ _ (ap (λ a. ltb a (2 ^ 32)) address ∙ le-ltb _ _ high))

  narrow_fine : head.address < 2 ^ 32 → malformed (bytes_of false) ≡ None
  narrow_fine low =
      let is = is_wide_now false in
      let whole : length (bytes_of false) ≡ 12 + length payload = omega arith in
      let address = address_narrow (bytes_of false) is ∙ from_be_bytes-to_be_bytes_4 head.address low in
      fine_at false 12 (or_from _ _ (le-ltb (length (bytes_of false)) 12 (omega (arith, whole))) (and_right _ _ is)) (ap (λ w. cond w 16 12) is) whole address
      (and_left _ _ (and_right _ _ is))

  fine_of : (high : Bool) → ltb head.address (2 ^ 32) ≡ high → head.address < 2 ^ 64 → malformed (bytes_of (cond high false true)) ≡ None
  fine_of true e small = narrow_fine (ltb-true _ _ e)
  fine_of false e small = wide_fine (ltb-false _ _ e) small

  body_small : (high : Bool) → ltb head.address (2 ^ 32) ≡ high → head.address < 2 ^ 64 → head.address < cond (cond high false true) (2 ^ 64) (2 ^ 32)
  body_small true e small = ltb-true _ _ e
  body_small false e small = small

  -- no cause makes it malformed
  pub request_well_formed : head.address < 2 ^ 64 → malformed (packet_bytes (request kind head count payload)) ≡ None
  request_well_formed small = fine_of (ltb head.address (2 ^ 32)) refl small

  pub request_fits : head.requester < 2 ^ 16 → head.tag < 2 ^ 8 → head.address < 2 ^ 64 → Fits (request kind head count payload)
  request_fits requester tag small = record {
    form = made.form (is_high head.address);
    length = field_small;
    requester = requester;
    tag = tag;
    body = (made.memory, fits.first, fits.last, body_small (ltb head.address (2 ^ 32)) refl small);
  }

  -- its bytes spell it
  pub request_spelled : head.requester < 2 ^ 16 → head.tag < 2 ^ 8 → head.address < 2 ^ 64 → Spells (packet_bytes (request kind head count payload)) (request kind head count payload)
  request_spelled requester tag small = record {
    fits = request_fits requester tag small;
    unused = [];
    has_unused = refl;
    put_together = refl;
    well_formed = request_well_formed small;
  }

  -- its bytes are read as it
  pub request_again : head.requester < 2 ^ 16 → head.tag < 2 ^ 8 → head.address < 2 ^ 64 → packet_of (packet_bytes (request kind head count payload)) ≡ request kind head count payload
  request_again requester tag small = packet_of-header (request kind head count payload) [] (request_fits requester tag small) refl

  -- what a buffer keeps of its bytes
  pub buffer_from : (bytes : List ℕ) → head.requester < 2 ^ 16 → head.tag < 2 ^ 8 → head.address < 2 ^ 64 → length bytes ≤ 272
      → bytes ≡ packet_bytes (request kind head count payload) → IsRequestBuffer bytes
  buffer_from bytes requester tag address small whole = record {
    small = small;
    spelled = let again : packet_of bytes ≡ request kind head count payload = ap packet_of whole ∙ request_again requester tag address in
        subst (λ bs. Spells bs (packet_of bytes)) (sym whole) (subst (Spells (packet_bytes (request kind head count payload))) (sym again) (request_spelled requester tag address));
    plain = whole ∙ sym (ap (λ bs. packet_bytes (packet_of bs)) whole ∙ ap packet_bytes (request_again requester tag address));
  }

-- the parts of a packet, one after another
pub made_bytes : (kind : Kind) (head : RequestHead) (count : ℕ) (payload front none one two all : List ℕ) → front ≡ take 8 (header (request kind head count []) []) → none ≡ [] → one ≡ none ++ front → two ≡ one ++ address_bytes (is_high head.address) head.address
    → all ≡ two ++ payload → all ≡ packet_bytes (request kind head count payload)
made_bytes kind head count payload front none one two all is_front is_none is_one is_two is_all =
    is_all ∙ ap (λ part. part ++ payload) (is_two ∙ ap (λ part. part ++ address_bytes (is_high head.address) head.address) (is_one ∙ ap (λ part. part ++ front) is_none ∙ is_front))

len_small : (high : Bool) (start end len n : ℕ) → start ≡ 8 → end ≡ start + cond high 8 4 → len ≡ end + n → n ≤ 256 → len ≤ 272
len_small true start end len n s e l small = omega (arith, s, e, l)
len_small false start end len n s e l small = omega (arith, s, e, l)

pub made_small : (address start end len n : ℕ) → start ≡ 8 → end ≡ start + cond (is_high address) 8 4 → len ≡ end + n → n ≤ 256 → len ≤ 272
made_small address start end len n s e l small = len_small (is_high address) start end len n s e l small

pub read_made : (count : ℕ) → IsMade MRd count []
read_made count = record { memory = refl; many = refl; type_is = refl; form = λ has_4dw_header. refl; sized = refl; small = omega arith }

pub write_made : (payload : List ℕ) → length payload ≤ 256 → length payload % 4 ≡ 0 → IsMade MWr (length payload / 4) payload
write_made payload small whole = record { memory = refl; many = refl; type_is = refl; form = λ has_4dw_header. refl; sized = omega (arith, whole); small = small }
