-- What a test keeps of a list that is made of parts.
use Rattle.std.proofs.Common.{◌≡◌, ◌⊎◌, inl, inr, Bool, true, false, cond, List, [], ◌∷◌, ◌++◌, map, refl, ap, ◌∙◌, subst}
use Rattle.std.specs.Prelude.{not, Contains, filter}
use Rattle.std.specs.List.{flat_map, list_all}
use Rattle.std.proofs.lemmas.List.{append-nil}
use Rattle.std.proofs.lemmas.List.Elements.{filter-append}
use Rattle.layout.specs.Laws.{each_pair}
use Rattle.platform.proofs.Bools.{and-first, and-second}
use Rattle.topology.proofs.Members.{cases_contained, here, later, nothing_contained, passes}

pub both_tests : (b : Bool) → b ≡ true → not b ≡ true → ⊥
both_tests true e h = absurd cc
both_tests false e h = absurd cc

pub filter_parts : {X Y : Type 0} (q : Y → Bool) (f : X → List Y) (xs : List X) → filter q (flat_map f xs) ≡ flat_map (λ x. filter q (f x)) xs
filter_parts q f [] = refl
filter_parts {X} {Y} q f (x ∷ xs) = filter-append q (f x) (flat_map f xs) ∙ ap (λ (ys : List Y). filter q (f x) ++ ys) (filter_parts q f xs)

pub same_parts : {X Y : Type 0} (f g : X → List Y) (xs : List X) → ((x : X) → Contains xs x → f x ≡ g x) → flat_map f xs ≡ flat_map g xs
same_parts f g [] each = refl
same_parts {X} {Y} f g (x ∷ xs) each =
    ap (λ (ys : List Y). ys ++ flat_map f xs) (each x (here x xs)) ∙ ap (λ (ys : List Y). g x ++ ys) (same_parts f g xs (λ y within. each y (later x y xs within)))

pub empty_parts : {X Y : Type 0} (f : X → List Y) (xs : List X) → ((x : X) → Contains xs x → f x ≡ []) → flat_map f xs ≡ []
empty_parts f [] each = refl
empty_parts {X} {Y} f (x ∷ xs) each = ap (λ (ys : List Y). ys ++ flat_map f xs) (each x (here x xs)) ∙ empty_parts f xs (λ y within. each y (later x y xs within))

-- of elements that are each apart from each, all have empty parts but one
pub one_part : {X Y : Type 0} (apart : X → X → Bool) (f : X → List Y) (xs : List X) (x : X) → each_pair apart xs ≡ true → Contains xs x
    → ((y : X) → Contains xs y → (apart x y ≡ true) ⊎ (apart y x ≡ true) → f y ≡ []) → flat_map f xs ≡ f x
one_part apart f [] x pairs within empty = absurd (nothing_contained x within)
one_part {X} {Y} apart f (z ∷ zs) x pairs within empty =
    go (λ rest. one_part apart f zs x (and-second (list_all (apart z) zs) (each_pair apart zs) pairs) rest (λ y listed. empty y (later z y zs listed))) (cases_contained z x zs within)
  where
    first : list_all (apart z) zs ≡ true
    first = and-first (list_all (apart z) zs) (each_pair apart zs) pairs

    go : (Contains zs x → flat_map f zs ≡ f x) → (z ≡ x) ⊎ Contains zs x → flat_map f (z ∷ zs) ≡ f x
    go behind (inl is) =
        ap (λ (ys : List Y). f z ++ ys) (empty_parts f zs (λ y listed. empty y (later z y zs listed) (inl (subst (λ (w : X). apart w y ≡ true) is (passes (apart z) zs y first listed)))))
        ∙ append-nil (f z) ∙ ap f is
    go behind (inr rest) = ap (λ (ys : List Y). ys ++ flat_map f zs) (empty z (here z zs) (inr (passes (apart z) zs x first rest))) ∙ behind rest

pub all_pass : {X Y : Type 0} (q : Y → Bool) (g : X → Y) (xs : List X) → ((x : X) → q (g x) ≡ true) → filter q (map g xs) ≡ map g xs
all_pass q g [] each = refl
all_pass {X} {Y} q g (x ∷ xs) each =
    ap (λ (b : Bool). cond b (g x ∷ filter q (map g xs)) (filter q (map g xs))) (each x) ∙ ap (λ (ys : List Y). g x ∷ ys) (all_pass q g xs each)

pub none_pass : {X Y : Type 0} (q : Y → Bool) (g : X → Y) (xs : List X) → ((x : X) → Contains xs x → q (g x) ≡ false) → filter q (map g xs) ≡ []
none_pass q g [] each = refl
none_pass {X} {Y} q g (x ∷ xs) each =
    ap (λ (b : Bool). cond b (g x ∷ filter q (map g xs)) (filter q (map g xs))) (each x (here x xs)) ∙ none_pass q g xs (λ y within. each y (later x y xs within))
