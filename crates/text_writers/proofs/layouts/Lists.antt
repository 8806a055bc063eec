-- Tests over a list that is cut at one element, or whose elements are changed where the tests do not look.
use Rattle.std.proofs.Common.{◌≡◌, ℕ, zero, suc, ◌≤◌, ◌<◌, Bool, true, false, cond, refl, List, [], ◌∷◌, ◌++◌, length, get_or, length-append, Option, Some, None, arith}
use Rattle.std.specs.Prelude.{◌||◌, count_by, map, option_map}
use Rattle.std.specs.List.{AllPairs, list_all, list_any, find}
use Rattle.std.proofs.lemmas.List.Sums.{sum_by-append}
use Rattle.std.proofs.lemmas.List.{get_or_append_left}
use Rattle.std.proofs.Math.Seq.{get_or-append_seam}
use Rattle.layout.specs.Laws.{each_pair}
use Rattle.platform.proofs.Bools.{and-first, and-second, and-both}

any-not-here : (a b : Bool) → a ≡ false → b ≡ false → (a || b) ≡ false
any-not-here true b h k = absurd cc
any-not-here false b h k = k

module _ {X : Type 0} where
  pub all-at : (p : X → Bool) (xs : List X) (y : X) (zs : List X) → list_all p (xs ++ y ∷ zs) ≡ true → p y ≡ true
  all-at p [] y zs h = and-first (p y) (list_all p zs) h
  all-at p (x ∷ xs) y zs h = all-at p xs y zs (and-second (p x) (list_all p (xs ++ y ∷ zs)) h)

  pub all-front : (p : X → Bool) (xs ys : List X) → list_all p (xs ++ ys) ≡ true → list_all p xs ≡ true
  all-front p [] ys h = refl
  all-front p (x ∷ xs) ys h = and-both (p x) (list_all p xs) (and-first (p x) (list_all p (xs ++ ys)) h) (all-front p xs ys (and-second (p x) (list_all p (xs ++ ys)) h))

  pub all-back : (p : X → Bool) (xs ys : List X) → list_all p (xs ++ ys) ≡ true → list_all p ys ≡ true
  all-back p [] ys h = h
  all-back p (x ∷ xs) ys h = all-back p xs ys (and-second (p x) (list_all p (xs ++ ys)) h)

  -- each before one, with that
  pub pair-front : (r : X → X → Bool) (xs : List X) (y : X) (zs : List X) → each_pair r (xs ++ y ∷ zs) ≡ true → list_all (λ x. r x y) xs ≡ true
  pair-front r [] y zs h = refl
  pair-front r (x ∷ xs) y zs h =
      and-both (r x y) (list_all (λ z. r z y) xs)
      (all-at (r x) xs y zs (and-first (list_all (r x) (xs ++ y ∷ zs)) (each_pair r (xs ++ y ∷ zs)) h))
      (pair-front r xs y zs (and-second (list_all (r x) (xs ++ y ∷ zs)) (each_pair r (xs ++ y ∷ zs)) h))

  -- one, with each behind it
  pub pair-back : (r : X → X → Bool) (xs : List X) (y : X) (zs : List X) → each_pair r (xs ++ y ∷ zs) ≡ true → list_all (r y) zs ≡ true
  pair-back r [] y zs h = and-first (list_all (r y) zs) (each_pair r zs) h
  pair-back r (x ∷ xs) y zs h = pair-back r xs y zs (and-second (list_all (r x) (xs ++ y ∷ zs)) (each_pair r (xs ++ y ∷ zs)) h)

  -- where each fails a test, none passes it
  pub none-passes : (p q : X → Bool) (xs : List X) → ((x : X) → q x ≡ true → p x ≡ false) → list_all q xs ≡ true → list_any p xs ≡ false
  none-passes p q [] w h = refl
  none-passes p q (x ∷ xs) w h = any-not-here (p x) (list_any p xs) (w x (and-first (q x) (list_all q xs) h)) (none-passes p q xs w (and-second (q x) (list_all q xs) h))

  not-found-here : (b : Bool) (x : X) (o : Option X) → b ≡ false → o ≡ None → cond b (Some x) o ≡ None
  not-found-here true x o h k = absurd cc
  not-found-here false x o h k = k

  pub none-found : (p q : X → Bool) (xs : List X) → ((x : X) → q x ≡ true → p x ≡ false) → list_all q xs ≡ true → find p xs ≡ None
  none-found p q [] w h = refl
  none-found p q (x ∷ xs) w h = not-found-here (p x) x (find p xs) (w x (and-first (q x) (list_all q xs) h)) (none-found p q xs w (and-second (q x) (list_all q xs) h))

  -- what is not found in front is found behind
  pub find-back : (p : X → Bool) (xs ys : List X) → find p xs ≡ None → find p (xs ++ ys) ≡ find p ys
  find-back p [] ys h = refl
  find-back p (x ∷ xs) ys h = go (p x) (find-back p xs ys) h
    where
      go : (b : Bool) → (find p xs ≡ None → find p (xs ++ ys) ≡ find p ys) → cond b (Some x) (find p xs) ≡ None → cond b (Some x) (find p (xs ++ ys)) ≡ find p ys
      go true more h = absurd cc
      go false more h = more h

  pub find-front : (p : X → Bool) (xs ys : List X) (x : X) → find p xs ≡ Some x → find p (xs ++ ys) ≡ Some x
  find-front p [] ys x h = absurd cc
  find-front p (z ∷ xs) ys x h = go (p z) (find-front p xs ys x) h
    where
      go : (b : Bool) → (find p xs ≡ Some x → find p (xs ++ ys) ≡ Some x) → cond b (Some z) (find p xs) ≡ Some x → cond b (Some z) (find p (xs ++ ys)) ≡ Some x
      go true more h = h
      go false more h = more h

  -- what is found passes the test
  pub find-passes : (p : X → Bool) (xs : List X) (x : X) → find p xs ≡ Some x → p x ≡ true
  find-passes p [] x h = absurd cc
  find-passes p (z ∷ xs) x h = go (p z) refl (find-passes p xs x) h
    where
      go : (b : Bool) → p z ≡ b → (find p xs ≡ Some x → p x ≡ true) → cond b (Some z) (find p xs) ≡ Some x → p x ≡ true
      go true e more h = let same : z ≡ x = cc in rw same at e
      go false e more h = more h

  -- one that counts, behind those that do
  pub count-room : (p : X → Bool) (xs : List X) (y : X) (zs : List X) (most : ℕ) → p y ≡ true → count_by p (xs ++ y ∷ zs) ≤ most → count_by p xs < most
  count-room p xs y zs most h few =
      let parts = sum_by-append (λ x. cond (p x) 1 0) xs (y ∷ zs) in
      let ends = sum_by-append (λ x. cond (p x) 1 0) (y ∷ []) zs in
      let one : count_by p (y ∷ []) ≡ 1 = rw h refl in
      omega (arith, parts, ends, one, few)

  pub length-room : (xs : List X) (y : X) (zs : List X) (most : ℕ) → length (xs ++ y ∷ zs) ≤ most → length xs < most
  length-room [] y zs most h = omega (arith, h)
  length-room (x ∷ xs) y zs zero h = absurd (omega (arith, h))
  length-room (x ∷ xs) y zs (suc most) h = omega (arith, length-room xs y zs most (omega (arith, h)))

  -- ---- elements changed

  pub any-map : (p q : X → Bool) (f : X → X) (xs : List X) → ((x : X) → p (f x) ≡ q x) → list_any p (map f xs) ≡ list_any q xs
  any-map p q f [] h = refl
  any-map p q f (x ∷ xs) h = rw (h x, any-map p q f xs h) refl

  pub find-map : (p : X → Bool) (f : X → X) (xs : List X) → ((x : X) → p (f x) ≡ p x) → find p (map f xs) ≡ option_map f (find p xs)
  find-map p f [] h = refl
  find-map p f (x ∷ xs) h = rw (h x) (go (p x) (find-map p f xs h))
    where
      go : (b : Bool) → find p (map f xs) ≡ option_map f (find p xs) → cond b (Some (f x)) (find p (map f xs)) ≡ option_map f (cond b (Some x) (find p xs))
      go true more = refl
      go false more = more

  -- ---- places

  pub pairs-front : (R : X → X → Type 0) (xs : List X) (y : X) (zs : List X) → AllPairs R (xs ++ y ∷ zs) → (i : ℕ) (d : X) → i < length xs → R (get_or xs i d) y
  pairs-front R xs y zs h i d below =
      let longer = length-append xs (y ∷ zs) in
      let pair : R (get_or (xs ++ y ∷ zs) i d) (get_or (xs ++ y ∷ zs) (length xs) d) = h i (length xs) d below (omega (arith, longer)) in
      let front : get_or (xs ++ y ∷ zs) i d ≡ get_or xs i d = get_or_append_left xs (y ∷ zs) d i below in
      let here : get_or (xs ++ y ∷ zs) (length xs) d ≡ y = get_or-append_seam xs y zs d in
      rw (front, here) at pair
