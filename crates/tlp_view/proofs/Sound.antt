-- What well-formed packets keep to.
use Rattle.std.proofs.Common.{◌≡◌, ℕ, ◌+◌, ◌*◌, ◌/◌, ◌%◌, ◌^◌, ◌≤◌, Bool, true, false, ◌&&◌, cond, eqb, nat_lt, List, length, drop, slice_index, Some, None, IfSome, refl, sym, ap, ◌∙◌, subst, length-drop, inl, inr, arith}
use Rattle.std.proofs.lemmas.Bool.{or_parts, and_cases, both_ways, not-false, eqb-true, ltb-false}
use Rattle.fab_types.specs.declared.faults.malformed.Malformed.TheVariants.{Size, Enables as BadEnables, Crosses, HighForm, Field}
use Rattle.tlp_view.specs.declared.kind.Kind.{Kind}
use Rattle.tlp_view.specs.declared.kind.Kind.TheVariants.{MRd, MWr, FetchAdd}
use Rattle.tlp_view.specs.Packet.{dw_count}
use Rattle.tlp_view.specs.Kinds.{has_address, is_memory, is_fetch_add}
use Rattle.tlp_view.specs.Bytes.{has_4dw_header_at, header_len, length_at, address_at, packet_of_kind, packet_of}
use Rattle.tlp_view.specs.Malformed.{data_len, has_bad_length, has_bad_size, has_bad_enables, crosses, has_bad_field, unit_of, malformed_of_kind, malformed}
use Rattle.tlp_view.specs.View.{IsView, IsSound}
use Rattle.tlp_view.proofs.KindFacts.{memory_addressed, memory_no_fetch_add}
use Rattle.tlp_view.proofs.WellFormed.{passes, view_of, packet-kind}
use Rattle.tlp_view.proofs.Bodies.{address_of_body}

-- the tests that a request for memory has passed: its size, its page and its fields
pub fine_memory : {A : Type 0} (a b c d e : Bool) (v w x y z : A) → cond a (Some v) (cond b (Some w) (cond c (Some x) (cond d (Some y) (cond e (Some z) None)))) ≡ None → (a ≡ false) × (c ≡ false) × (e ≡ false)
fine_memory a b c d e v w x y z fine =
    let first = passes a v _ fine in
    let second = passes b w _ first.1 in
    let third = passes c x _ second.1 in
    let fourth = passes d y _ third.1 in
    (first.0, third.0, (passes e z None fourth.1).0)

pub second_false : (a b : Bool) → a ≡ true → (a && b) ≡ false → b ≡ false
second_false a b t e = elim (and_cases a b e) [ inl f ↦ absurd (both_ways a f t) | inr f ↦ f ]

-- an address is one of a whole unit
whole_unit : (kind : Kind) (bytes : List ℕ) → has_bad_field kind bytes ≡ false → has_address kind ≡ true → address_at bytes % unit_of kind (length_at bytes) ≡ 0
unfolding has_bad_field
whole_unit kind bytes fine addressed =
    eqb-true (address_at bytes % unit_of kind (length_at bytes)) 0 (not-false _ (second_false (has_address kind) _ addressed (or_parts _ _ (or_parts _ _ fine).0).1))

whole_dw : (kind : Kind) (bytes : List ℕ) → has_bad_field kind bytes ≡ false → is_memory kind ≡ true → address_at bytes % 4 ≡ 0
whole_dw kind bytes fine memory =
    sym (ap (λ b. address_at bytes % cond (b && eqb (length_at bytes) 2) 8 4) (memory_no_fetch_add kind memory)) ∙ whole_unit kind bytes fine (memory_addressed kind memory)

bad_length : (kind : Kind) (bytes : List ℕ) → has_bad_size kind bytes ≡ false → has_bad_length kind (length_at bytes) ≡ false
unfolding has_bad_size
bad_length kind bytes fine = (or_parts _ _ fine).1

pub aligned_within : (kind : Kind) (bytes : List ℕ) → malformed_of_kind kind bytes ≡ None → is_memory kind ≡ true → (address_at bytes % 4 ≡ 0) × (address_at bytes % 4096 + 4 * dw_count (length_at bytes) ≤ 4096)
unfolding malformed_of_kind crosses
aligned_within kind bytes fine memory =
    let tests = fine_memory (has_bad_size kind bytes) (is_memory kind && has_bad_enables (dw_count (length_at bytes)) (address_at bytes) (slice_index bytes 7 % 16) (slice_index bytes 7 / 16)) (is_memory kind && crosses (dw_count (length_at bytes)) (address_at bytes)) (has_address kind && has_4dw_header_at bytes && nat_lt (address_at bytes) (2 ^ 32)) (has_bad_field kind bytes) Size BadEnables Crosses HighForm Field fine in
    let page = ltb-false 4096 (address_at bytes / 4 * 4 % 4096 + 4 * dw_count (length_at bytes)) (second_false (is_memory kind) (crosses (dw_count (length_at bytes)) (address_at bytes)) memory tests.1) in
    let whole = whole_dw kind bytes tests.2 memory in
    let same : address_at bytes / 4 * 4 ≡ address_at bytes = omega (arith, whole) in
    (whole, rw same at page)

-- the operand of a FetchAdd, of one DW or two, stands at a multiple of its size
operand_within : (length address : ℕ) → has_bad_length FetchAdd length ≡ false → address % unit_of FetchAdd length ≡ 0 → (address % 4 ≡ 0) × (address % 4096 + 4 * dw_count length ≤ 4096)
operand_within length address fine whole = elim (and_cases _ _ fine) [
  | inl one ↦ (let is : length ≡ 1 = eqb-true length 1 (not-false _ one) in let unit : address % 4 ≡ 0 = subst (λ n. address % unit_of FetchAdd n ≡ 0) is whole in subst (λ n. (address % 4 ≡ 0) × (address % 4096 + 4 * dw_count n ≤ 4096)) (sym is) (unit, omega (arith, unit)))
  | inr two ↦ (let is : length ≡ 2 = eqb-true length 2 (not-false _ two) in let unit : address % 8 ≡ 0 = subst (λ n. address % unit_of FetchAdd n ≡ 0) is whole in subst (λ n. (address % 4 ≡ 0) × (address % 4096 + 4 * dw_count n ≤ 4096)) (sym is) (omega (arith, unit), omega (arith, unit)))
]

fetch_add_within : (bytes : List ℕ) → malformed_of_kind FetchAdd bytes ≡ None → (address_at bytes % 4 ≡ 0) × (address_at bytes % 4096 + 4 * dw_count (length_at bytes) ≤ 4096)
unfolding malformed_of_kind
fetch_add_within bytes fine =
    let tests = fine_memory (has_bad_size FetchAdd bytes) false false (has_4dw_header_at bytes && nat_lt (address_at bytes) (2 ^ 32)) (has_bad_field FetchAdd bytes) Size BadEnables Crosses HighForm Field fine in
    operand_within (length_at bytes) (address_at bytes) (bad_length FetchAdd bytes tests.0) (whole_unit FetchAdd bytes tests.2 refl)

-- whatever has an address has it within its 4,096 bytes
addressed_within : (kind : Kind) (bytes : List ℕ) → malformed_of_kind kind bytes ≡ None → has_address kind ≡ true → (address_at bytes % 4 ≡ 0) × (address_at bytes % 4096 + 4 * dw_count (length_at bytes) ≤ 4096)
addressed_within MRd bytes fine addressed = aligned_within MRd bytes fine refl
addressed_within MWr bytes fine addressed = aligned_within MWr bytes fine refl
addressed_within FetchAdd bytes fine addressed = fetch_add_within bytes fine
addressed_within _ bytes fine addressed = absurd cc

fine_length : (kind : Kind) (bytes : List ℕ) → malformed_of_kind kind bytes ≡ None → has_bad_length kind (length_at bytes) ≡ false
unfolding malformed_of_kind
fine_length kind bytes fine = bad_length kind bytes (passes _ _ _ fine).0

some_if : {A : Type 0} (b : Bool) (x : A) (P : A → Type 0) → (b ≡ true → P x) → IfSome (cond b (Some x) None) P
some_if true x P h = h refl
some_if false x P h = tt

sound_kind : (kind : Kind) (bytes : List ℕ) → IsView kind bytes → malformed_of_kind kind bytes ≡ None → IsSound (packet_of_kind kind bytes)
sound_kind kind bytes view fine =
    let body = sym (address_of_body kind bytes) in
    let long = length-drop (header_len bytes) bytes in
    let sized : length (drop (header_len bytes) bytes) ≡ data_len kind bytes = omega (arith, view.size) in
    record {
      sized = sized;
      small = omega (arith, sized, view.small);
      counted = fine_length kind bytes fine;
      aligned = subst (λ o. IfSome o (λ a. a % 4 ≡ 0)) body (some_if (has_address kind) (address_at bytes) (λ a. a % 4 ≡ 0) (λ m. (addressed_within kind bytes fine m).0));
      within = subst (λ o. IfSome o (λ a. a % 4096 + 4 * dw_count (length_at bytes) ≤ 4096)) body (some_if (has_address kind) (address_at bytes) (λ a. a % 4096 + 4 * dw_count (length_at bytes) ≤ 4096) (λ m. (addressed_within kind bytes fine m).1));
    }

pub well_formed_sound : (bytes : List ℕ) → malformed bytes ≡ None → IsSound (packet_of bytes)
well_formed_sound bytes well =
    let found = view_of bytes well in
    subst IsSound (packet-kind bytes found.0 found.1.kind_is) (sound_kind found.0 bytes found.1 found.2)

pub IsSound-view : (kind : Kind) (bytes : List ℕ) → IsView kind bytes → IsSound (packet_of_kind kind bytes)
IsSound-view kind bytes view = subst IsSound (sym (packet-kind bytes kind view.kind_is)) (well_formed_sound bytes view.well_formed)
