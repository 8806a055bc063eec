-- Words behind words.
use Rattle.std.proofs.Common.{◌≡◌, ℕ, refl, ap, ◌∙◌, List, [], ◌∷◌, ◌++◌, append_assoc}
use Rattle.text_writers.specs.Words.{more_words}

words-joined : (front back : List (List ℕ)) → more_words front ++ more_words back ≡ more_words (front ++ back)
words-joined [] back = refl
words-joined (word ∷ front) back =
    ap (λ (text : List ℕ). 32 ∷ text) (append_assoc word (more_words front) (more_words back) ∙ ap (λ (text : List ℕ). word ++ text) (words-joined front back))

pub joined : (first : List ℕ) (front : List (List ℕ)) (word : List ℕ) (back : List (List ℕ))
    → (first ++ more_words front) ++ (32 ∷ (word ++ more_words back)) ≡ first ++ more_words (front ++ word ∷ back)
joined first front word back =
    append_assoc first (more_words front) (32 ∷ (word ++ more_words back)) ∙ ap (λ (text : List ℕ). first ++ text) (words-joined front (word ∷ back))
