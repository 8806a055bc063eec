-- What is read is in range.
use Rattle.std.proofs.Common.{◌≡◌, ℕ, suc, ◌+◌, ◌-◌, ◌*◌, ◌<◌, ◌≤◌, ◌^◌, ◌==◌, Bool, true, false, cond, refl, List, [], ◌∷◌, length, Option, Some, None, ◌&&◌, nat_le, nat_lt, arith, lit<}
use Rattle.std.specs.Prelude.{option_and_then, option_map, slice_index}
use Rattle.std.proofs.lemmas.Bool.{and_parts}
use Rattle.std.proofs.lemmas.Bool.Decides.{nat_tests}
use Rattle.std.proofs.Math.Nat.{mul-le-mul_right, pow-le-pow_right, pow-suc, pow-zero}
use Rattle.fab_types.specs.Id.{id_of}
use Rattle.text.specs.Text.{decimal, decimal_digit, digits, hex_digit, hex_pair, hexadecimal, id_at, id_of_known, id_of_parts}

-- ---- what comes before an answer

pub record Came {A B : Type 0} (o : Option A) (f : A → Option B) (y : B) : Type 0 where
  pub it : A
  pub is : o ≡ Some it
  pub gives : f it ≡ Some y

pub came : {A B : Type 0} (o : Option A) (f : A → Option B) (y : B) → option_and_then f o ≡ Some y → Came o f y
came None f y h = absurd cc
came (Some x) f y h = record { it = x; is = refl; gives = h }

pub record Mapped {A B : Type 0} (o : Option A) (f : A → B) (y : B) : Type 0 where
  pub it : A
  pub is : o ≡ Some it
  pub gives : f it ≡ y

pub mapped-from : {A B : Type 0} (o : Option A) (f : A → B) (y : B) → option_map f o ≡ Some y → Mapped o f y
mapped-from None f y h = absurd cc
mapped-from (Some x) f y h = record { it = x; is = refl; gives = let e : f x ≡ y = cc in e }

pub if-some : {A : Type 0} (b : Bool) (o : Option A) (y : A) → cond b o None ≡ Some y → (b ≡ true) × (o ≡ Some y)
if-some true o y h = (refl, h)
if-some false o y h = absurd cc

-- ---- digits

small-of : (b : Bool) (d n : ℕ) (o : Option ℕ) (most : ℕ) → (b ≡ true → n < most) → (o ≡ Some d → d < most) → cond b (Some n) o ≡ Some d → d < most
small-of true d n o most here other h = let same : n ≡ d = cc in rw same at (here refl)
small-of false d n o most here other h = other h

no-value : (d most : ℕ) → None ≡ Some d → d < most
no-value d most h = absurd cc

decimal_small : (b d : ℕ) → decimal_digit b ≡ Some d → d < 10
decimal_small b d h = small-of (nat_le 48 b && nat_le b 57) d (b - 48) None 10 (λ e. grind (arith, nat_tests)) (no-value d 10) h

hex_small : (b d : ℕ) → hex_digit b ≡ Some d → d < 16
hex_small b d h =
    small-of (nat_le 48 b && nat_le b 57) d (b - 48) (cond (nat_le 97 b && nat_le b 102) (Some (b - 87)) None) 16 (λ e. grind (arith, nat_tests))
    (small-of (nat_le 97 b && nat_le b 102) d (b - 87) None 16 (λ e. grind (arith, nat_tests)) (no-value d 16)) h

-- digits behind others stay below the next power
power : (a b p q : ℕ) → q ≡ p * b → a * b * p ≡ a * q
power a b p q e = grind arith

grown : (n a b p q : ℕ) → n < a * p → a ≤ b → b * p ≡ q → n < q
grown n a b p q h k e = let more = mul-le-mul_right p k in omega (arith, h, more, e)

next : (high base d : ℕ) → d < base → high * base + d + 1 ≤ (high + 1) * base
next high base d low = omega (arith, low)

nothing-more : (high n base : ℕ) → high ≡ n → n < (high + 1) * base ^ 0
nothing-more high n base same = let one = pow-zero base in rw one (omega (arith, same))

below-power : (digit : ℕ → Option ℕ) (base : ℕ) → ((b d : ℕ) → digit b ≡ Some d → d < base) → (text : List ℕ) (high n : ℕ) → digits digit base high text ≡ Some n → n < (high + 1) * base ^ length text
below-power digit base small [] high n h = nothing-more high n base cc
below-power digit base small (b ∷ text) high n h =
    let c = came (digit b) (λ d. digits digit base (high * base + d) text) n h in
    grown n (high * base + c.it + 1) ((high + 1) * base) (base ^ length text) ((high + 1) * base ^ suc (length text))
    (below-power digit base small text (high * base + c.it) n c.gives) (next high base c.it (small b c.it c.is))
    (power (high + 1) base (base ^ length text) (base ^ suc (length text)) (pow-suc base (length text)))

within-power : (base most few n : ℕ) → 0 < base → few ≤ most → n < (0 + 1) * base ^ few → n < base ^ most
within-power base most few n some le h = let grows = pow-le-pow_right {n = base} some le in omega (arith, grows, h)

-- ---- fields

pub hexadecimal_small : (least most n : ℕ) (text : List ℕ) → hexadecimal least most text ≡ Some n → n < 16 ^ most
unfolding hexadecimal
hexadecimal_small least most n text h =
    let parts = if-some (nat_le least (length text) && nat_le (length text) most) (digits hex_digit 16 0 text) n h in
    let few : length text ≤ most = le-of (length text) most (and_parts _ _ parts.0).1 in
    within-power 16 most (length text) n (lit< tt) few (below-power hex_digit 16 hex_small text 0 n parts.1)
  where
    le-of : (a b : ℕ) → nat_le a b ≡ true → a ≤ b
    le-of a b h = grind (arith, nat_tests)

pub count_small : (n : ℕ) (text : List ℕ) → decimal text ≡ Some n → n < 10 ^ 9
unfolding decimal
count_small n text h =
    let parts = if-some (nat_le 1 (length text) && nat_le (length text) 9) (digits decimal_digit 10 0 text) n h in
    let few : length text ≤ 9 = le-of (length text) 9 (and_parts _ _ parts.0).1 in
    within-power 10 9 (length text) n (lit< tt) few (below-power decimal_digit 10 decimal_small text 0 n parts.1)
  where
    le-of : (a b : ℕ) → nat_le a b ≡ true → a ≤ b
    le-of a b h = grind (arith, nat_tests)

pair_small : (high low n : ℕ) → hex_pair high low ≡ Some n → n < 256
pair_small high low n h =
    let one = came (hex_digit high) (λ x. option_and_then (λ y. Some (x * 16 + y)) (hex_digit low)) n h in
    let two = came (hex_digit low) (λ y. Some (one.it * 16 + y)) n one.gives in
    let same : one.it * 16 + two.it ≡ n = cc two.gives in
    omega (arith, hex_small high one.it one.is, hex_small low two.it two.is, same)

known_small : (bus device function id : ℕ) → bus < 256 → id_of_known bus device function ≡ Some id → id < 2 ^ 16
known_small bus device function id low h =
    let parts = if-some (nat_lt device 32 && nat_lt function 8) (Some (id_of bus device function)) id h in
    let tests = and_parts _ _ parts.0 in
    let same : id_of bus device function ≡ id = cc parts.1 in
    omega (arith, low, lt-of device 32 tests.0, lt-of function 8 tests.1, same)
  where
    lt-of : (a b : ℕ) → nat_lt a b ≡ true → a < b
    lt-of a b h = grind (arith, nat_tests)

parts_small : (bus device function : Option ℕ) (id : ℕ) → ((b : ℕ) → bus ≡ Some b → b < 256) → id_of_parts bus device function ≡ Some id → id < 2 ^ 16
parts_small bus device function id low h =
    let b = came bus (λ b. option_and_then (λ d. option_and_then (λ f. id_of_known b d f) function) device) id h in
    let d = came device (λ d. option_and_then (λ f. id_of_known b.it d f) function) id b.gives in
    let f = came function (λ f. id_of_known b.it d.it f) id d.gives in
    known_small b.it d.it f.it id (low b.it b.is) f.gives

pub id_small : (id : ℕ) (text : List ℕ) → id_at text ≡ Some id → id < 2 ^ 16
unfolding id_at
id_small id text h =
    let parts = if-some ((length text == 7) && (slice_index text 2 == 58) && (slice_index text 5 == 46)) (id_of_parts (hex_pair (slice_index text 0) (slice_index text 1)) (hex_pair (slice_index text 3) (slice_index text 4)) (hex_digit (slice_index text 6))) id h in
    parts_small (hex_pair (slice_index text 0) (slice_index text 1)) (hex_pair (slice_index text 3) (slice_index text 4)) (hex_digit (slice_index text 6)) id (pair_small (slice_index text 0) (slice_index text 1)) parts.1
