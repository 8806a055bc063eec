-- Which of two a test chooses.
use Rattle.std.proofs.Common.{◌≡◌, Bool, true, false, cond, ◌&&◌, Option, Some, None, refl}
use Rattle.request_handling.specs.declared.handling.Handling.{Handling}
use Rattle.request_handling.specs.AtFunctions.{discarded, or_discarded}

-- the second of two
pub else_is : {X : Type 0} (b : Bool) (x y r : X) → b ≡ false → r ≡ y → r ≡ cond b x y
else_is true x y r e same = absurd cc
else_is false x y r e same = same

-- where nobody has a case for it nothing happens
pub none_discarded : (o : Option Handling) → None ≡ o → discarded ≡ or_discarded o
none_discarded None e = refl
none_discarded (Some a) e = absurd cc

pub both_discarded : (a b : Bool) (o : Option Handling) (y : Handling) → a ≡ true → b ≡ true → None ≡ o → discarded ≡ cond (a && b) (or_discarded o) y
both_discarded true true o y e f none = none_discarded o none
both_discarded true false o y e f none = absurd cc
both_discarded false b o y e f none = absurd cc
