-- What holds of each element, where it stands in the whole list, holds of the list.
use Rattle.std.proofs.Common.{◌≡◌, Bool, true, false, cond, refl, sym, ◌∙◌, List, [], ◌∷◌, ◌++◌, Some, append_assoc}
use Rattle.std.specs.Prelude.{◌||◌, map}
use Rattle.std.specs.List.{flat_map, list_all, list_any, find}
use Rattle.std.proofs.lemmas.Bool.{and_from, and_parts}
use Rattle.layout_line.specs.declared.lines.LayoutLine.{LayoutLine}
use Rattle.text_writers.specs.LineRanges.{IsInRange}
use Rattle.text_writers.proofs.layouts.After.{AreInRange, in-range-both}

-- each element's lines, where it stands in the whole
module _ {X : Type 0} (lines : X → List LayoutLine) (full : List X) (good : (front : List X) (x : X) (rest : List X) → full ≡ front ++ x ∷ rest → AreInRange (lines x)) where
  each-from : (front rest : List X) → full ≡ front ++ rest → AreInRange (flat_map lines rest)
  each-from front [] e = tt
  each-from front (x ∷ rest) e = in-range-both (lines x) (flat_map lines rest) (good front x rest e) (each-from (front ++ x ∷ []) rest (e ∙ sym (append_assoc front (x ∷ []) rest)))

  pub each-in-range : AreInRange (flat_map lines full)
  each-in-range = each-from [] full refl

module _ {X : Type 0} (says : X → LayoutLine) (full : List X) (good : (front : List X) (x : X) (rest : List X) → full ≡ front ++ x ∷ rest → IsInRange (says x)) where
  one-from : (front rest : List X) → full ≡ front ++ rest → AreInRange (map says rest)
  one-from front [] e = tt
  one-from front (x ∷ rest) e = (good front x rest e, one-from (front ++ x ∷ []) rest (e ∙ sym (append_assoc front (x ∷ []) rest)))

  pub one-in-range : AreInRange (map says full)
  one-in-range = one-from [] full refl

module _ {X : Type 0} (test : X → Bool) (full : List X) (good : (front : List X) (x : X) (rest : List X) → full ≡ front ++ x ∷ rest → test x ≡ true) where
  tests-from : (front rest : List X) → full ≡ front ++ rest → list_all test rest ≡ true
  tests-from front [] e = refl
  tests-from front (x ∷ rest) e = and_from (test x) (list_all test rest) (good front x rest e) (tests-from (front ++ x ∷ []) rest (e ∙ sym (append_assoc front (x ∷ []) rest)))

  pub tests-all : list_all test full ≡ true
  tests-all = tests-from [] full refl

pub first-in-range : (xs ys : List LayoutLine) → AreInRange (xs ++ ys) → AreInRange xs
first-in-range [] ys h = tt
first-in-range (x ∷ xs) ys h = (h.0, first-in-range xs ys h.1)

pub last-in-range : (xs ys : List LayoutLine) → AreInRange (xs ++ ys) → AreInRange ys
last-in-range [] ys h = h
last-in-range (x ∷ xs) ys h = last-in-range xs ys h.1

-- an element that passes one test and keeps another
pub record IsBoth {X : Type 0} (p q : X → Bool) : Type 0 where
  pub it : X
  pub one : p it ≡ true
  pub other : q it ≡ true

pub any-and : {X : Type 0} (p q : X → Bool) (xs : List X) → list_any p xs ≡ true → list_all q xs ≡ true → IsBoth p q
any-and p q [] h k = absurd cc
any-and p q (x ∷ xs) h k = go (p x) refl h (any-and p q xs)
  where
    go : (b : Bool) → p x ≡ b → (b || list_any p xs) ≡ true → (list_any p xs ≡ true → list_all q xs ≡ true → IsBoth p q) → IsBoth p q
    go true e h more = record { it = x; one = e; other = (and_parts (q x) (list_all q xs) k).0 }
    go false e h more = more h (and_parts (q x) (list_all q xs) k).1

pub all-found : {X : Type 0} (p q : X → Bool) (xs : List X) (x : X) → find p xs ≡ Some x → list_all q xs ≡ true → q x ≡ true
all-found p q [] x e h = absurd cc
all-found p q (y ∷ xs) x e h = go (p y) e (all-found p q xs x)
  where
    go : (b : Bool) → cond b (Some y) (find p xs) ≡ Some x → (find p xs ≡ Some x → list_all q xs ≡ true → q x ≡ true) → q x ≡ true
    go true e more = let same : y ≡ x = cc in rw same at (and_parts (q y) (list_all q xs) h).0
    go false e more = more e (and_parts (q y) (list_all q xs) h).1
