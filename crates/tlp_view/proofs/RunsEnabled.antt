-- When all bytes of a write are enabled.
use Rattle.std.proofs.Common.{◌≡◌, ℕ, ◌+◌, ◌/◌, ◌%◌, ◌<◌, ◌≤◌, Bool, true, false, cond, eqb, refl, arith}
use Rattle.std.proofs.lemmas.Bool.{agree_below_at, eqb-true, eqb-false}
use Rattle.tlp_view.specs.declared.enables.Enables.{Enables}
use Rattle.tlp_view.specs.Bytes.{is_set}
use Rattle.tlp_view.specs.Runs.{is_enabled}

low_bit : (j : ℕ) → j < 4 → is_set 15 j ≡ true
low_bit j l = agree_below_at (λ j. is_set 15 j) (λ j. true) 4 j refl l

either : (b x y : Bool) → (b ≡ true → x ≡ true) → (b ≡ false → y ≡ true) → cond b x y ≡ true
either true x y h k = h refl
either false x y h k = k refl

-- the first DW's are, and so are the last one's where that is another DW
pub all_enabled : (e : Enables) (count i : ℕ) → e.first ≡ 15 → (8 ≤ count → e.last ≡ 15) → is_enabled e count i ≡ true
all_enabled e count i first last =
    either (eqb (i / 4) 0) (is_set e.first (i % 4)) _ (λ h. rw first (low_bit (i % 4) (omega arith)))
    (λ h. either (eqb (i / 4 + 1) (count / 4)) (is_set e.last (i % 4)) true
    (λ k. rw (last (omega (arith, eqb-false (i / 4) 0 h, eqb-true (i / 4 + 1) (count / 4) k))) (low_bit (i % 4) (omega arith)))
    (λ k. refl))
