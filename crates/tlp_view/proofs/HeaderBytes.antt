-- The bytes of a header one by one, each put together again from its fields.
use Rattle.std.proofs.Common.{◌≡◌, ℕ, zero, suc, ◌+◌, ◌*◌, ◌/◌, ◌%◌, ◌^◌, ◌<◌, ◌≤◌, Bool, true, false, not, ◌||◌, eqb, ◌==◌, List, [], ◌∷◌, length, slice_index, get_or, is_none, unwrap_or, refl, sym, ap, ◌∙◌, inl, inr, arith}
use Rattle.std.proofs.lemmas.Bool.{both_ways, eqb-true, agree_below_at, cases_lt}
use Rattle.std.specs.Int.{w32, w64, from_be_bytes}
use Rattle.fab_types.specs.declared.status.Status.TheVariants.{SC}
use Rattle.tlp_view.specs.Bytes.{bits, is_set, address_type_of, status_of}
use Rattle.tlp_view.specs.Spelling.{flag, address_type_bits, status_bits}

abbrev pub IsBytes : List ℕ → Type 0
IsBytes bytes = (i : ℕ) → slice_index bytes i < 256

-- a list of so many bytes or more has them one by one
pub with_12 : (P : List ℕ → Type 0) → ((b0 b1 b2 b3 b4 b5 b6 b7 b8 b9 b10 b11 : ℕ) (rest : List ℕ) → P (b0 ∷ b1 ∷ b2 ∷ b3 ∷ b4 ∷ b5 ∷ b6 ∷ b7 ∷ b8 ∷ b9 ∷ b10 ∷ b11 ∷ rest)) → (bytes : List ℕ) → 12 ≤ length bytes → P bytes
with_12 P f [] h = absurd (omega arith)
with_12 P f (b0 ∷ []) h = absurd (omega arith)
with_12 P f (b0 ∷ b1 ∷ []) h = absurd (omega arith)
with_12 P f (b0 ∷ b1 ∷ b2 ∷ []) h = absurd (omega arith)
with_12 P f (b0 ∷ b1 ∷ b2 ∷ b3 ∷ []) h = absurd (omega arith)
with_12 P f (b0 ∷ b1 ∷ b2 ∷ b3 ∷ b4 ∷ []) h = absurd (omega arith)
with_12 P f (b0 ∷ b1 ∷ b2 ∷ b3 ∷ b4 ∷ b5 ∷ []) h = absurd (omega arith)
with_12 P f (b0 ∷ b1 ∷ b2 ∷ b3 ∷ b4 ∷ b5 ∷ b6 ∷ []) h = absurd (omega arith)
with_12 P f (b0 ∷ b1 ∷ b2 ∷ b3 ∷ b4 ∷ b5 ∷ b6 ∷ b7 ∷ []) h = absurd (omega arith)
with_12 P f (b0 ∷ b1 ∷ b2 ∷ b3 ∷ b4 ∷ b5 ∷ b6 ∷ b7 ∷ b8 ∷ []) h = absurd (omega arith)
with_12 P f (b0 ∷ b1 ∷ b2 ∷ b3 ∷ b4 ∷ b5 ∷ b6 ∷ b7 ∷ b8 ∷ b9 ∷ []) h = absurd (omega arith)
with_12 P f (b0 ∷ b1 ∷ b2 ∷ b3 ∷ b4 ∷ b5 ∷ b6 ∷ b7 ∷ b8 ∷ b9 ∷ b10 ∷ []) h = absurd (omega arith)
with_12 P f (b0 ∷ b1 ∷ b2 ∷ b3 ∷ b4 ∷ b5 ∷ b6 ∷ b7 ∷ b8 ∷ b9 ∷ b10 ∷ b11 ∷ rest) h = f b0 b1 b2 b3 b4 b5 b6 b7 b8 b9 b10 b11 rest

pub with_16 : (P : List ℕ → Type 0) → ((b0 b1 b2 b3 b4 b5 b6 b7 b8 b9 b10 b11 b12 b13 b14 b15 : ℕ) (rest : List ℕ) → P (b0 ∷ b1 ∷ b2 ∷ b3 ∷ b4 ∷ b5 ∷ b6 ∷ b7 ∷ b8 ∷ b9 ∷ b10 ∷ b11 ∷ b12 ∷ b13 ∷ b14 ∷ b15 ∷ rest)) → (bytes : List ℕ) → 16 ≤ length bytes → P bytes
with_16 P f [] h = absurd (omega arith)
with_16 P f (b0 ∷ []) h = absurd (omega arith)
with_16 P f (b0 ∷ b1 ∷ []) h = absurd (omega arith)
with_16 P f (b0 ∷ b1 ∷ b2 ∷ []) h = absurd (omega arith)
with_16 P f (b0 ∷ b1 ∷ b2 ∷ b3 ∷ []) h = absurd (omega arith)
with_16 P f (b0 ∷ b1 ∷ b2 ∷ b3 ∷ b4 ∷ []) h = absurd (omega arith)
with_16 P f (b0 ∷ b1 ∷ b2 ∷ b3 ∷ b4 ∷ b5 ∷ []) h = absurd (omega arith)
with_16 P f (b0 ∷ b1 ∷ b2 ∷ b3 ∷ b4 ∷ b5 ∷ b6 ∷ []) h = absurd (omega arith)
with_16 P f (b0 ∷ b1 ∷ b2 ∷ b3 ∷ b4 ∷ b5 ∷ b6 ∷ b7 ∷ []) h = absurd (omega arith)
with_16 P f (b0 ∷ b1 ∷ b2 ∷ b3 ∷ b4 ∷ b5 ∷ b6 ∷ b7 ∷ b8 ∷ []) h = absurd (omega arith)
with_16 P f (b0 ∷ b1 ∷ b2 ∷ b3 ∷ b4 ∷ b5 ∷ b6 ∷ b7 ∷ b8 ∷ b9 ∷ []) h = absurd (omega arith)
with_16 P f (b0 ∷ b1 ∷ b2 ∷ b3 ∷ b4 ∷ b5 ∷ b6 ∷ b7 ∷ b8 ∷ b9 ∷ b10 ∷ []) h = absurd (omega arith)
with_16 P f (b0 ∷ b1 ∷ b2 ∷ b3 ∷ b4 ∷ b5 ∷ b6 ∷ b7 ∷ b8 ∷ b9 ∷ b10 ∷ b11 ∷ []) h = absurd (omega arith)
with_16 P f (b0 ∷ b1 ∷ b2 ∷ b3 ∷ b4 ∷ b5 ∷ b6 ∷ b7 ∷ b8 ∷ b9 ∷ b10 ∷ b11 ∷ b12 ∷ []) h = absurd (omega arith)
with_16 P f (b0 ∷ b1 ∷ b2 ∷ b3 ∷ b4 ∷ b5 ∷ b6 ∷ b7 ∷ b8 ∷ b9 ∷ b10 ∷ b11 ∷ b12 ∷ b13 ∷ []) h = absurd (omega arith)
with_16 P f (b0 ∷ b1 ∷ b2 ∷ b3 ∷ b4 ∷ b5 ∷ b6 ∷ b7 ∷ b8 ∷ b9 ∷ b10 ∷ b11 ∷ b12 ∷ b13 ∷ b14 ∷ []) h = absurd (omega arith)
with_16 P f (b0 ∷ b1 ∷ b2 ∷ b3 ∷ b4 ∷ b5 ∷ b6 ∷ b7 ∷ b8 ∷ b9 ∷ b10 ∷ b11 ∷ b12 ∷ b13 ∷ b14 ∷ b15 ∷ rest) h = f b0 b1 b2 b3 b4 b5 b6 b7 b8 b9 b10 b11 b12 b13 b14 b15 rest

pub or_second : (a b : Bool) → a ≡ false → (a || b) ≡ true → b ≡ true
or_second true b e f = absurd (both_ways true e refl)
or_second false b e f = f

-- byte 1 has no bit but ID-Based Ordering
unfoldable pub has_bad_1 : ℕ → Bool
has_bad_1 b = is_set b 7 || not (bits b 4 3 == 0) || is_set b 3 || is_set b 1 || is_set b 0

byte_1-all : (b : ℕ) → b < 256 → (has_bad_1 b || eqb b (4 * flag (is_set b 2))) ≡ true
unfolding has_bad_1
byte_1-all b h = agree_below_at (λ b. has_bad_1 b || eqb b (4 * flag (is_set b 2))) (λ b. true) 256 b refl h

pub byte_1-apart : (b : ℕ) → b < 256 → has_bad_1 b ≡ false → 4 * flag (is_set b 2) ≡ b
byte_1-apart b h e = sym (eqb-true _ _ (or_second _ _ e (byte_1-all b h)))

-- byte 2 has the other attributes, AT and two bits of Length
byte_2_of : ℕ → ℕ
byte_2_of b = 32 * flag (is_set b 5) + 16 * flag (is_set b 4) + 4 * address_type_bits (address_type_of (bits b 2 2)) + bits b 0 2

byte_2-all : (b : ℕ) → b < 256 → (is_set b 7 || is_set b 6 || eqb b (byte_2_of b)) ≡ true
unfolding byte_2_of
byte_2-all b h = agree_below_at (λ b. is_set b 7 || is_set b 6 || eqb b (byte_2_of b)) (λ b. true) 256 b refl h

pub byte_2-apart : (b c : ℕ) → b < 256 → c < 256 → (is_set b 7 || is_set b 6) ≡ false
    → 32 * flag (is_set b 5) + 16 * flag (is_set b 4) + 4 * address_type_bits (address_type_of (bits b 2 2)) + (bits b 0 2 * 256 + c) / 256 ≡ b
unfolding byte_2_of
byte_2-apart b c h l e =
    let low : (bits b 0 2 * 256 + c) / 256 ≡ bits b 0 2 = omega arith in
    ap (λ n. 32 * flag (is_set b 5) + 16 * flag (is_set b 4) + 4 * address_type_bits (address_type_of (bits b 2 2)) + n) low
    ∙ sym (eqb-true b (byte_2_of b) (or_second _ _ e (byte_2-all b h)))

-- byte 6 of a completion has a status and four bits of Byte Count
byte_6_of : ℕ → ℕ
byte_6_of b = 32 * status_bits (unwrap_or (status_of (b / 32)) SC) + bits b 0 4

byte_6-all : (b : ℕ) → b < 256 → (is_set b 4 || is_none (status_of (b / 32)) || eqb b (byte_6_of b)) ≡ true
unfolding byte_6_of
byte_6-all b h = agree_below_at (λ b. is_set b 4 || is_none (status_of (b / 32)) || eqb b (byte_6_of b)) (λ b. true) 256 b refl h

pub byte_6-apart : (b c : ℕ) → b < 256 → c < 256 → (is_set b 4 || is_none (status_of (b / 32))) ≡ false
    → 32 * status_bits (unwrap_or (status_of (b / 32)) SC) + (bits b 0 4 * 256 + c) / 256 ≡ b
unfolding byte_6_of
byte_6-apart b c h l e =
    let low : (bits b 0 4 * 256 + c) / 256 ≡ bits b 0 4 = omega arith in
    ap (λ n. 32 * status_bits (unwrap_or (status_of (b / 32)) SC) + n) low ∙ sym (eqb-true b (byte_6_of b) (or_second _ _ e (byte_6-all b h)))

pub high_apart : (b c : ℕ) → c < 256 → (b * 256 + c) / 256 ≡ b
high_apart b c h = omega arith

pub low_apart : (b c : ℕ) → c < 256 → (b * 256 + c) % 256 ≡ c
low_apart b c h = omega arith

pub four_fit : (a b c d : ℕ) → a < 256 → b < 256 → c < 256 → d < 256 → (i : ℕ) → get_or (a ∷ b ∷ c ∷ d ∷ []) i 0 < 256
four_fit a b c d ha hb hc hd zero = ha
four_fit a b c d ha hb hc hd (suc zero) = hb
four_fit a b c d ha hb hc hd (suc (suc zero)) = hc
four_fit a b c d ha hb hc hd (suc (suc (suc zero))) = hd
four_fit a b c d ha hb hc hd (suc (suc (suc (suc i)))) = omega arith

pub eight_fit : (a b c d e f g k : ℕ) → a < 256 → b < 256 → c < 256 → d < 256 → e < 256 → f < 256 → g < 256 → k < 256 → (i : ℕ) → get_or (a ∷ b ∷ c ∷ d ∷ e ∷ f ∷ g ∷ k ∷ []) i 0 < 256
eight_fit a b c d e f g k ha hb hc hd he hf hg hk zero = ha
eight_fit a b c d e f g k ha hb hc hd he hf hg hk (suc zero) = hb
eight_fit a b c d e f g k ha hb hc hd he hf hg hk (suc (suc zero)) = hc
eight_fit a b c d e f g k ha hb hc hd he hf hg hk (suc (suc (suc zero))) = hd
eight_fit a b c d e f g k ha hb hc hd he hf hg hk (suc (suc (suc (suc zero)))) = he
eight_fit a b c d e f g k ha hb hc hd he hf hg hk (suc (suc (suc (suc (suc zero))))) = hf
eight_fit a b c d e f g k ha hb hc hd he hf hg hk (suc (suc (suc (suc (suc (suc zero)))))) = hg
eight_fit a b c d e f g k ha hb hc hd he hf hg hk (suc (suc (suc (suc (suc (suc (suc zero))))))) = hk
eight_fit a b c d e f g k ha hb hc hd he hf hg hk (suc (suc (suc (suc (suc (suc (suc (suc i)))))))) = omega arith

pub four_small : (a b c d : ℕ) → a < 256 → b < 256 → c < 256 → d < 256 → from_be_bytes w32 (a ∷ b ∷ c ∷ d ∷ []) < 2 ^ 32
four_small a b c d ha hb hc hd = omega arith

pub eight_small : (a b c d e f g k : ℕ) → a < 256 → b < 256 → c < 256 → d < 256 → e < 256 → f < 256 → g < 256 → k < 256 → from_be_bytes w64 (a ∷ b ∷ c ∷ d ∷ e ∷ f ∷ g ∷ k ∷ []) < 2 ^ 64
eight_small a b c d e f g k ha hb hc hd he hf hg hk = omega arith

-- the byte of Lower Address, whose high bit has no field
pub lower_apart : (b : ℕ) → b < 256 → (unused : List ℕ) × (length unused < 2) × (128 * length unused + b % 128 ≡ b)
lower_apart b h = elim (cases_lt b 128) [ inl l ↦ ([], omega arith, omega arith) | inr l ↦ (0 ∷ [], omega arith, omega arith) ]
