-- A completion that a buffer holds is well formed, and its bytes spell it.
use Rattle.std.proofs.Common.{◌≡◌, ℕ, zero, suc, ◌+◌, ◌*◌, ◌/◌, ◌%◌, ◌^◌, ◌<◌, ◌≤◌, Bool, true, false, not, ◌||◌, cond, eqb, ltb, List, [], ◌∷◌, length, drop, is_none, Some, None, refl, sym, ap, ◌∙◌, subst, arith}
use Rattle.std.proofs.lemmas.Bool.{le-ltb, eq-eqb, ne_eqb, or_from, and_right, cond-false}
use Rattle.fab_types.specs.declared.status.Status.{Status}
use Rattle.tlp_view.specs.declared.attributes.Attributes.{Attributes}
use Rattle.tlp_view.specs.declared.completion.CompletionHead.{CompletionHead}
use Rattle.tlp_view.specs.declared.kind.Kind.{Kind}
use Rattle.tlp_view.specs.declared.kind.Kind.TheVariants.{Cpl, CplD}
use Rattle.tlp_view.specs.Packet.{Packet, dw_count}
use Rattle.tlp_view.specs.Kinds.{kind_at, has_form, has_address, is_memory, is_completion}
use Rattle.tlp_view.specs.Bytes.{bits, is_set, has_4dw_header_at, fmt_at, type_at, length_at, status_of}
use Rattle.tlp_view.specs.Malformed.{is_short, has_bad_size, has_bad_common, has_bad_field, malformed_of_kind, malformed}
use Rattle.tlp_view.specs.Spelling.{flag, status_bits, Spells}
use Rattle.tlp_view.specs.Completions.{completion, completion_bytes, HeadFits}
use Rattle.tlp_view.proofs.KindFacts.{flag_small}
use Rattle.tlp_view.proofs.Again.{status_again, status_small}

well_formed_by : (kind : Kind) (bytes : List ℕ) → is_short bytes ≡ false → kind_at (fmt_at bytes) (type_at bytes) ≡ Some kind → has_bad_size kind bytes ≡ false → is_memory kind ≡ false → has_address kind ≡ false → has_bad_field kind bytes ≡ false → malformed bytes ≡ None
unfolding malformed malformed_of_kind
well_formed_by kind bytes long is_kind size memory addressed field = rw (long, is_kind, size, memory, addressed, field) refl

fine_flags : (i r n : Bool)
    → (is_set (4 * flag i) 7 || not (eqb (4 * flag i / 16 % 8) 0) || is_set (4 * flag i) 3 || is_set (4 * flag i) 1 || is_set (4 * flag i) 0 || is_set (32 * flag r + 16 * flag n + 4 * 0 + 0) 7 || is_set (32 * flag r + 16 * flag n + 4 * 0 + 0) 6) ≡ false
fine_flags true true true = refl
fine_flags true true false = refl
fine_flags true false true = refl
fine_flags true false false = refl
fine_flags false true true = refl
fine_flags false true false = refl
fine_flags false false true = refl
fine_flags false false false = refl

-- the first DW has no bit that this profile wants to be 0
fine_common : (b0 b3 : ℕ) (attributes : Attributes) (count : ℕ) (rest : List ℕ) → count < 256
    → has_bad_common (b0 ∷ 4 * flag attributes.id_based_ordering ∷ (32 * flag attributes.relaxed_ordering + 16 * flag attributes.no_snoop + 4 * 0 + count / 256) ∷ b3 ∷ rest) ≡ false
unfolding has_bad_common
fine_common b0 b3 attributes count rest small =
    let none : count / 256 ≡ 0 = omega arith in
    rw none (fine_flags attributes.id_based_ordering attributes.relaxed_ordering attributes.no_snoop)

-- byte 6 of a completion: no BCM, and a status
fine_status : (status : Status) (count : ℕ) → count < 4096 → (is_set (32 * status_bits status + count / 256) 4 || is_none (status_of ((32 * status_bits status + count / 256) / 32))) ≡ false
fine_status status count small =
    let s = status_small status in
    let bit : (32 * status_bits status + count / 256) / 16 % 2 ≡ 0 = omega (arith, s) in
    let code : (32 * status_bits status + count / 256) / 32 ≡ status_bits status = omega (arith, s) in
    or_from _ _ (ap (λ n. eqb n 1) bit) (ap (λ n. is_none (status_of n)) code ∙ ap (λ o. is_none o) (status_again status))

field_small : (attributes : Attributes) (count : ℕ) → count < 256 → bits (32 * flag attributes.relaxed_ordering + 16 * flag attributes.no_snoop + 4 * 0 + count / 256) 0 2 * 256 + count % 256 ≡ count
field_small attributes count small =
    let r = flag_small attributes.relaxed_ordering in
    let n = flag_small attributes.no_snoop in
    omega (arith, r, n)

fine_length : (bytes : List ℕ) → 12 ≤ length bytes → has_4dw_header_at bytes ≡ false → is_short bytes ≡ false
fine_length bytes long narrow = or_from _ _ (le-ltb (length bytes) 12 long) (and_right (ltb (length bytes) 16) (has_4dw_header_at bytes) narrow)

fine_size : (bytes : List ℕ) (n : ℕ) → length bytes ≡ 12 + n → n ≤ 256 → (not (eqb (length bytes) (12 + n)) || ltb 256 n || false) ≡ false
fine_size bytes n whole small = or_from _ _ (or_from _ _ (ap not (eq-eqb (length bytes) (12 + n) whole)) (le-ltb 256 n small)) refl

module _ (head : CompletionHead) (payload : List ℕ) (fits : HeadFits head) where
  abbrev of_kind : Kind → ℕ → Packet
  of_kind kind count = record (completion head count payload) { kind = kind }

  well_formed_empty : length payload ≡ 0 → malformed (completion_bytes (of_kind Cpl 0)) ≡ None
  unfolding kind_at has_bad_size has_bad_field
  well_formed_empty long =
      let bytes = completion_bytes (of_kind Cpl 0) in
      let whole : length bytes ≡ 12 + 0 = omega (arith, long) in
      let common = fine_common 10 0 head.attributes 0 (drop 4 bytes) (omega arith) in
      let status = fine_status head.status head.byte_count fits.byte_count in
      well_formed_by Cpl bytes (fine_length bytes (omega (arith, whole)) refl) refl (fine_size bytes 0 whole (omega arith)) refl refl (or_from _ _ (or_from _ _ common refl) status)

  well_formed_data : (count : ℕ) → 0 < count → count ≤ 64 → length payload ≡ 4 * count → malformed (completion_bytes (of_kind CplD count)) ≡ None
  unfolding kind_at has_bad_size has_bad_field
  well_formed_data count some small long =
      let bytes = completion_bytes (of_kind CplD count) in
      let zero : count / 256 ≡ 0 = omega arith in
      let field : length_at bytes ≡ count = field_small head.attributes count (omega arith) in
      let counted : dw_count (length_at bytes) ≡ count = ap dw_count field ∙ cond-false _ _ _ (ne_eqb count 0 (λ e. omega arith)) in
      let whole : length bytes ≡ 12 + 4 * count = omega (arith, long) in
      let common = fine_common 74 (count % 256) head.attributes count (drop 4 bytes) (omega arith) in
      let status = fine_status head.status head.byte_count fits.byte_count in
      let size : has_bad_size CplD bytes ≡ false = rw counted (fine_size bytes (4 * count) whole (omega arith)) in
      well_formed_by CplD bytes (fine_length bytes (omega (arith, whole)) refl) refl size refl refl (or_from _ _ (or_from _ _ common refl) status)

  -- a completion without payload is a Cpl, and else a CplD
  pub completion_well_formed : (count : ℕ) → count ≤ 64 → length payload ≡ 4 * count → malformed (completion_bytes (completion head count payload)) ≡ None
  completion_well_formed zero small long = well_formed_empty (omega (arith, long))
  completion_well_formed (suc n) small long =
      let some : eqb (suc n) 0 ≡ false = ne_eqb (suc n) 0 (λ e. omega arith) in
      subst (λ k. malformed (completion_bytes (of_kind k (suc n))) ≡ None) (ap (λ b. cond b Cpl CplD) (sym some)) (well_formed_data (suc n) (omega arith) small long)

  is_completion_at : (b : Bool) → is_completion (cond b Cpl CplD) ≡ true
  is_completion_at true = refl
  is_completion_at false = refl

  has_form_at : (b : Bool) → has_form (cond b Cpl CplD) false ≡ true
  has_form_at true = refl
  has_form_at false = refl

  -- its bytes spell it
  pub completion_spelled : (count : ℕ) → count ≤ 64 → length payload ≡ 4 * count → head.completer < 2 ^ 16 → head.requester < 2 ^ 16 → head.tag < 2 ^ 8
      → Spells (completion_bytes (completion head count payload)) (completion head count payload)
  completion_spelled count small long completer requester tag = record {
    fits = record {
      form = has_form_at (eqb count 0);
      length = omega arith;
      requester = requester;
      tag = tag;
      body = (is_completion_at (eqb count 0), completer, fits.byte_count, fits.lower_address);
    };
    unused = [];
    has_unused = omega arith;
    put_together = refl;
    well_formed = completion_well_formed count small long;
  }
