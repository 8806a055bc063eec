-- Cuts of a text, and the numbers that digits spell.
use Rattle.std.proofs.Common.{◌≡◌, ℕ, ◌+◌, ◌-◌, ◌^◌, ◌<◌, ◌≤◌, ◌&&◌, ◌||◌, Bool, true, false, cond, nat_le, List, length, take, drop, Option, Some, None, refl, ap, arith, lit<}
use Rattle.std.specs.Prelude.{option_map, IfSome}
use Rattle.std.specs.List.{position}
use Rattle.std.proofs.lemmas.List.{take_rest}
use Rattle.std.proofs.Math.Nat.{pow-le-pow_right}
use Rattle.text.specs.Bytes.{is_lower_digit}
use Rattle.text.specs.Text.{cut, cut_at, is_byte, hex_digit}

pub cut-some : (byte at : ℕ) (text : List ℕ) → Some at ≡ position (is_byte byte) text → Some (take at text, take (length text - (at + 1)) (drop (at + 1) text)) ≡ cut byte text
unfolding cut
cut-some byte at text e = rw (take_rest text (at + 1)) (ap (λ (p : Option ℕ). option_map (cut_at text) p) e)

pub cut-none : (byte : ℕ) (text : List ℕ) → None ≡ position (is_byte byte) text → None ≡ cut byte text
unfolding cut
cut-none byte text e = ap (λ (p : Option ℕ). option_map (cut_at text) p) e

-- what passes no test of a digit is none
neither : (a b : Bool) (m n : ℕ) → (a || b) ≡ false → cond a (Some m) (cond b (Some n) None) ≡ None
neither true b m n h = absurd cc
neither false true m n h = absurd cc
neither false false m n h = refl

pub no_digit : (c : ℕ) → is_lower_digit c ≡ false → hex_digit c ≡ None
no_digit c h = neither (nat_le 48 c && nat_le c 57) (nat_le 97 c && nat_le c 102) (c - 48) (c - 87) h

pub below_ten : (high i : ℕ) → high < 10 ^ i → i ≤ 19 → high < 10 ^ 19
below_ten high i small few = omega (arith, pow-le-pow_right {n = 10} (lit< tt) few)

pub below_sixteen : (high i : ℕ) → high < 16 ^ i → i ≤ 15 → high < 1152921504606846976
below_sixteen high i small few = omega (arith, pow-le-pow_right {n = 16} (lit< tt) few)

pub small-grown : (value : Option ℕ) (n m : ℕ) → n ≤ m → IfSome value (λ v. v < 16 ^ n) → IfSome value (λ v. v < 16 ^ m)
small-grown None n m le small = small
small-grown (Some v) n m le small = omega (arith, pow-le-pow_right {n = 16} (lit< tt) le)
