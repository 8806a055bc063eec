-- What writers hold.
use Rattle.std.proofs.Common.{◌≡◌, ℕ, ◌+◌, ◌<◌, List, [], ◌∷◌, ◌++◌, length, take, Option, Some, None, sym, ap, ◌∙◌, subst, append_assoc}
use Rattle.std.specs.Prelude.{slice_index_or}
use Rattle.std.specs.List.{flat_map}
use Rattle.std.proofs.lemmas.Grind.{flat_map-append}
use Rattle.std.specs.Io.KnownBytes.{Appends, Keeps}
use Rattle.std.proofs.lemmas.List.{append-nil}
use Rattle.fab_types.proofs.Taking.{take_next}

-- what was appended stays while the bytes stay
pub kept_after : (old mid new : Option (List ℕ)) (text : List ℕ) → Appends old mid text → Keeps mid new → Appends old new text
kept_after None mid new text a k = tt
kept_after (Some xs) None new text a k = absurd a
kept_after (Some xs) (Some ys) None text a k = absurd k
kept_after (Some xs) (Some ys) (Some zs) text a k = k ∙ a

-- nothing was appended
pub nothing : (old : Option (List ℕ)) → Appends old old []
nothing None = tt
nothing (Some xs) = sym (append-nil xs)

-- one text after another
pub joined : (old mid new : Option (List ℕ)) (s t : List ℕ) → Appends old mid s → Appends mid new t → Appends old new (s ++ t)
joined None mid new s t a b = tt
joined (Some xs) None new s t a b = absurd a
joined (Some xs) (Some ys) None s t a b = absurd b
joined (Some xs) (Some ys) (Some zs) s t a b = b ∙ (ap (λ (l : List ℕ). l ++ t) a ∙ append_assoc xs s t)

-- what was made ready was appended
pub ready : (old new : Option (List ℕ)) (text made : List ℕ) → Appends (Some []) (Some made) text → Appends old new made → Appends old new text
ready old new text made is a = subst (Appends old new) is a

-- one item more of a list, of which each has its text
pub lines_next : {X : Type 0} (f : X → List ℕ) (xs : List X) (i : ℕ) (x : X) (old mid new : Option (List ℕ)) → i < length xs → x ≡ slice_index_or xs i x
    → Appends old mid (flat_map f (take i xs)) → Appends mid new (f x) → Appends old new (flat_map f (take (i + 1) xs))
lines_next {X = X} f xs i x old mid new lt is before now =
    let one : flat_map f (x ∷ []) ≡ f x = append-nil (f x) in
    let text : flat_map f (take (i + 1) xs) ≡ flat_map f (take i xs) ++ f x =
    ap (flat_map f) (take_next xs i x lt is) ∙ (flat_map-append f (take i xs) (x ∷ []) ∙ ap (λ (l : List ℕ). flat_map f (take i xs) ++ l) one) in
    subst (λ (l : List ℕ). Appends old new l) (sym text) (joined old mid new (flat_map f (take i xs)) (f x) before now)
