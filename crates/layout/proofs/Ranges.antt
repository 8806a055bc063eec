-- Frames are counted upwards.
use Rattle.std.proofs.Common.{◌≡◌, ℕ, suc, zero, ◌+◌, ◌<◌, length, get_or, refl, ap, arith}
use Rattle.std.specs.List.{range_with_len}
use Rattle.std.specs.List.Sorted.{IsStrictlyIncreasing}

length-range : (a n : ℕ) → length (range_with_len a n) ≡ n
length-range a zero = refl
length-range a (suc n) = ap suc (length-range (a + 1) n)

at-range : (a n i : ℕ) → i < n → get_or (range_with_len a n) i 0 ≡ a + i
at-range a zero i h = absurd (omega arith)
at-range a (suc n) zero h = omega arith
at-range a (suc n) (suc i) h = let e : get_or (range_with_len (a + 1) n) i 0 ≡ a + 1 + i = at-range (a + 1) n i (omega arith) in omega (arith, e)

pub range-rising : (n : ℕ) → IsStrictlyIncreasing (range_with_len 0 n)
range-rising n k h =
    let l : length (range_with_len 0 n) ≡ n = length-range 0 n in
    let here : get_or (range_with_len 0 n) k 0 ≡ 0 + k = at-range 0 n k (omega (arith, l)) in
    let next : get_or (range_with_len 0 n) (k + 1) 0 ≡ 0 + (k + 1) = at-range 0 n (k + 1) (omega (arith, l)) in
    omega (arith, here, next)
