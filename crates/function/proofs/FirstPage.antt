-- A page at the start.
use Rattle.std.proofs.Common.{◌≡◌, ℕ, ◌-◌, ◌/◌, ◌%◌, List, [], ◌∷◌, ◌++◌, take, replicate, get_or, ap, ◌∙◌, arith}
use Rattle.std.proofs.lemmas.List.{get_or-replicate}
use Rattle.function.specs.Registers.{first_page}
use Rattle.function.specs.Pages.{Runs}

-- as it is filled
pub first_page_is : (id b r n : ℕ) (empty four all : List ℕ) → empty ≡ [] → four ≡ empty ++ (b ∷ r ∷ 70 ∷ 66 ∷ []) → b ≡ id / 256 → r ≡ id % 256 → n ≡ 4
    → all ≡ take 4096 four ++ replicate (4096 - n) 0 → all ≡ first_page id
unfolding first_page
first_page_is id b r n empty four all e g p q k h =
    h ∙ ap (λ (m : ℕ). take 4096 four ++ replicate (4096 - m) 0) k
    ∙ ap (λ (x : List ℕ). take 4096 x ++ replicate 4092 0) (g ∙ ap (λ (x : List ℕ). x ++ (b ∷ r ∷ 70 ∷ 66 ∷ [])) e ∙ ap (λ (x : ℕ). x ∷ r ∷ 70 ∷ 66 ∷ []) p ∙ ap (λ (x : ℕ). id / 256 ∷ x ∷ 70 ∷ 66 ∷ []) q)

-- no program runs in it
pub first_page-runs : (id : ℕ) → Runs (first_page id)
unfolding first_page
first_page-runs id =
    let zeros : List ℕ = replicate 4092 0 in
    let zero_there : get_or zeros 4 0 ≡ 0 = get_or-replicate 4092 4 0 0 (omega arith) in
    λ e. absurd (omega (arith, zero_there, e))
