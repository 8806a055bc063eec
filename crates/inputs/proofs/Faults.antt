-- A fault that is handed on.
use Rattle.std.proofs.Common.{◌≡◌, ◌⊎◌, Result, Ok, Err, IfErr, inl, inr, sym, subst}
use Rattle.std.specs.Result.{IsErrAnd}

-- what holds of the fault holds of the result that has it
pub handed_on : {T E : Type 0} (r : Result T E) (x : E) (Q : E → Type 0) → IsErrAnd r (λ y. y ≡ x) → Q x → IfErr r Q
handed_on (Ok t) x Q is q = tt
handed_on (Err y) x Q is q = subst Q (sym is) q

-- one of three is one of six
pub among : (M A B C D F : Type 0) → M ⊎ C ⊎ D → M ⊎ A ⊎ B ⊎ C ⊎ D ⊎ F
among M A B C D F (inl m) = inl m
among M A B C D F (inr (inl c)) = inr (inr (inr (inl c)))
among M A B C D F (inr (inr d)) = inr (inr (inr (inr (inl d))))
