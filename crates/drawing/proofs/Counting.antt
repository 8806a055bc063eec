-- Numbers below a bound: how many pass a test, and the greatest value at one.
use Rattle.std.proofs.Common.{◌≡◌, ℕ, zero, suc, ◌+◌, ◌-◌, ◌<◌, ◌≤◌, max, Bool, true, false, refl, subst, arith, add-one, add-suc, add-zero, le_refl}
use Rattle.drawing.specs.Placing.{count_below, greatest_below}

pub count_hit : (test : ℕ → Bool) (n : ℕ) → test n ≡ true → count_below test (n + 1) ≡ count_below test n + 1
unfolding count_below
count_hit test n hit = rw add-one (rw hit refl)

pub count_miss : (test : ℕ → Bool) (n : ℕ) → test n ≡ false → count_below test (n + 1) ≡ count_below test n
unfolding count_below
count_miss test n miss = rw add-one (rw miss (omega arith))

pub count_none : (test : ℕ → Bool) → count_below test 0 ≡ 0
unfolding count_below
count_none test = refl

pub greatest_next : (f : ℕ → ℕ) (n : ℕ) → greatest_below f (n + 1) ≡ max (f n) (greatest_below f n)
unfolding greatest_below
greatest_next f n = rw add-one refl

pub greatest_none : (f : ℕ → ℕ) → greatest_below f 0 ≡ 0
unfolding greatest_below
greatest_none f = refl

count_grows : (test : ℕ → Bool) (m k : ℕ) → count_below test m ≤ count_below test (m + k)
unfolding count_below
count_grows test m zero = rw add-zero (le_refl (count_below test m))
count_grows test m (suc k) = rw add-suc (let before : count_below test m ≤ count_below test (m + k) = count_grows test m k in omega arith)

-- as many or more below a greater bound
pub count_more : (test : ℕ → Bool) (m n : ℕ) → m ≤ n → count_below test m ≤ count_below test n
count_more test m n le =
    let sum : m + (n - m) ≡ n = omega arith in
    subst (λ (k : ℕ). count_below test m ≤ count_below test k) sum (count_grows test m (n - m))

greatest_grows : (f : ℕ → ℕ) (n k : ℕ) → f n ≤ greatest_below f (suc (n + k))
unfolding greatest_below
greatest_grows f n zero = rw add-zero (omega arith)
greatest_grows f n (suc k) = rw add-suc (let before : f n ≤ greatest_below f (suc (n + k)) = greatest_grows f n k in omega arith)

-- a value at a number below the bound is the greatest or less
pub greatest_at : (f : ℕ → ℕ) (n m : ℕ) → n < m → f n ≤ greatest_below f m
greatest_at f n m lt =
    let sum : suc (n + (m - suc n)) ≡ m = omega arith in
    subst (λ (k : ℕ). f n ≤ greatest_below f k) sum (greatest_grows f n (m - suc n))
