-- Lists that are cut at one element, with one more element behind, or with each element changed.
use Rattle.std.proofs.Common.{◌≡◌, refl, ap, ◌∙◌, List, [], ◌∷◌, ◌++◌, inl, inr}
use Rattle.std.specs.Prelude.{◌⊎◌, map}

module _ {X : Type 0} where
  pub no-empty : (front : List X) (x : X) (rest : List X) → [] ≡ front ++ x ∷ rest → ⊥
  no-empty [] x rest e = cc
  no-empty (y ∷ front) x rest e = cc

  same-first : (x y : X) (xs ys : List X) → x ∷ xs ≡ y ∷ ys → x ≡ y
  same-first x y xs ys e = cc

  same-rest : (x y : X) (xs ys : List X) → x ∷ xs ≡ y ∷ ys → xs ≡ ys
  same-rest x y xs ys e = cc

  -- the cut is at the last element, or before it
  pub record IsEarlier (xs front : List X) (t : X) : Type 0 where
    pub rest : List X
    pub is : xs ≡ front ++ t ∷ rest

  pub record IsLast (xs front : List X) (x t : X) : Type 0 where
    pub whole : xs ≡ front
    pub last : x ≡ t

  one-more : (y a : X) (xs front : List X) (x t : X) → y ≡ a → IsLast xs front x t ⊎ IsEarlier xs front t → IsLast (y ∷ xs) (a ∷ front) x t ⊎ IsEarlier (y ∷ xs) (a ∷ front) t
  one-more y a xs front x t e (inl last) = inl (record { whole = ap (λ (z : X). z ∷ xs) e ∙ ap (λ (zs : List X). a ∷ zs) last.whole; last = last.last })
  one-more y a xs front x t e (inr earlier) = inr (record { rest = earlier.rest; is = ap (λ (z : X). z ∷ xs) e ∙ ap (λ (zs : List X). a ∷ zs) earlier.is })

  pub cut-more : (xs : List X) (x : X) (front : List X) (t : X) (rest : List X) → xs ++ x ∷ [] ≡ front ++ t ∷ rest → IsLast xs front x t ⊎ IsEarlier xs front t
  cut-more [] x [] t rest e = inl (record { whole = refl; last = same-first x t [] rest e })
  cut-more [] x (a ∷ front) t rest e = absurd (no-empty front t rest (same-rest x a [] (front ++ t ∷ rest) e))
  cut-more (y ∷ xs) x [] t rest e = inr (record { rest = xs; is = ap (λ (z : X). z ∷ xs) (same-first y t (xs ++ x ∷ []) rest e) })
  cut-more (y ∷ xs) x (a ∷ front) t rest e =
      one-more y a xs front x t (same-first y a (xs ++ x ∷ []) (front ++ t ∷ rest) e) (cut-more xs x front t rest (same-rest y a (xs ++ x ∷ []) (front ++ t ∷ rest) e))

  -- a cut of changed elements is one of the elements
  pub record IsMapped (f : X → X) (xs front : List X) (y : X) : Type 0 where
    pub before : List X
    pub at : X
    pub behind : List X
    pub is : xs ≡ before ++ at ∷ behind
    pub front_is : map f before ≡ front
    pub at_is : f at ≡ y

  mapped-more : (f : X → X) (x a : X) (xs front : List X) (y : X) → f x ≡ a → IsMapped f xs front y → IsMapped f (x ∷ xs) (a ∷ front) y
  mapped-more f x a xs front y e m = record {
    before = x ∷ m.before;
    at = m.at;
    behind = m.behind;
    is = ap (λ (zs : List X). x ∷ zs) m.is;
    front_is = ap (λ (z : X). z ∷ map f m.before) e ∙ ap (λ (zs : List X). a ∷ zs) m.front_is;
    at_is = m.at_is;
  }

  pub cut-mapped : (f : X → X) (xs front : List X) (y : X) (rest : List X) → map f xs ≡ front ++ y ∷ rest → IsMapped f xs front y
  cut-mapped f [] front y rest e = absurd (no-empty front y rest e)
  cut-mapped f (x ∷ xs) [] y rest e = record { before = []; at = x; behind = xs; is = refl; front_is = refl; at_is = same-first (f x) y (map f xs) rest e }
  cut-mapped f (x ∷ xs) (a ∷ front) y rest e =
      mapped-more f x a xs front y (same-first (f x) a (map f xs) (front ++ y ∷ rest) e) (cut-mapped f xs front y rest (same-rest (f x) a (map f xs) (front ++ y ∷ rest) e))
