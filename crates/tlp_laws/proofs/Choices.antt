-- What is chosen by a test.
use Rattle.std.proofs.Common.{◌≡◌, Bool, true, false, cond, refl}

-- a choice has what both have
pub chosen : {X : Type 0} (P : X → Type 0) (b : Bool) (x y : X) → (b ≡ true → P x) → (b ≡ false → P y) → P (cond b x y)
chosen P true x y f g = f refl
chosen P false x y f g = g refl
