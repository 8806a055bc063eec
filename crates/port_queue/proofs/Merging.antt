-- Entries put into one list by their numbers.
use Rattle.std.proofs.Common.{◌≡◌, ◌≢◌, ℕ, suc, ◌<◌, ◌≤◌, List, [], ◌∷◌, ◌++◌, refl, sym, ap, ◌∙◌, subst, inl, inr, arith, one-add}
use Rattle.std.specs.Prelude.{map, insert}
use Rattle.std.proofs.lemmas.Bool.{cases_lt, lt-ltb, le-ltb}
use Rattle.port_queue.specs.Arrivals.{Each, insert_in, all_in, place_of}

module _ {A : Type 0} where
  pub each_weaker : (P Q : A → Type 0) → ((x : A) → P x → Q x) → (xs : List A) → Each P xs → Each Q xs
  each_weaker P Q f [] h = tt
  each_weaker P Q f (x ∷ xs) h = (f x h.0, each_weaker P Q f xs h.1)

  pub each-push : (P : A → Type 0) (xs : List A) (x : A) → Each P xs → P x → Each P (xs ++ x ∷ [])
  each-push P [] x h p = (p, tt)
  each-push P (y ∷ ys) x h p = (h.0, each-push P ys x h.1 p)

  pub each_all : (P : A → Type 0) → ((x : A) → P x) → (xs : List A) → Each P xs
  each_all P f [] = tt
  each_all P f (x ∷ xs) = (f x, each_all P f xs)

module _ {A B : Type 0} where
  pub each-map : (P : B → Type 0) (f : A → B) (xs : List A) → Each (λ x. P (f x)) xs → Each P (map f xs)
  each-map P f [] h = tt
  each-map P f (x ∷ xs) h = (h.0, each-map P f xs h.1)

  pub each-from_map : (P : B → Type 0) (f : A → B) (xs : List A) → Each P (map f xs) → Each (λ x. P (f x)) xs
  each-from_map P f [] h = tt
  each-from_map P f (x ∷ xs) h = (h.0, each-from_map P f xs h.1)

module _ {A : Type 0} where
  pub insert-before : (x y : ℕ × A) (ys : List (ℕ × A)) → x.0 < y.0 → insert_in x (y ∷ ys) ≡ x ∷ y ∷ ys
  insert-before x y ys h = rw (lt-ltb x.0 y.0 h) refl

  pub insert-after : (x y : ℕ × A) (ys : List (ℕ × A)) → y.0 ≤ x.0 → insert_in x (y ∷ ys) ≡ y ∷ insert_in x ys
  insert-after x y ys h = rw (le-ltb x.0 y.0 h) refl

  place-before : (n : ℕ) (y : ℕ × A) (ys : List (ℕ × A)) → n < y.0 → place_of n (y ∷ ys) ≡ 0
  place-before n y ys h = rw (lt-ltb n y.0 h) refl

  place-after : (n : ℕ) (y : ℕ × A) (ys : List (ℕ × A)) → y.0 ≤ n → place_of n (y ∷ ys) ≡ suc (place_of n ys)
  place-after n y ys h = rw (le-ltb n y.0 h) (one-add (place_of n ys))

  pub each-insert_in : (P : ℕ × A → Type 0) (x : ℕ × A) (ys : List (ℕ × A)) → P x → Each P ys → Each P (insert_in x ys)
  each-insert_in P x [] p h = (p, tt)
  each-insert_in P x (y ∷ ys) p h = elim (cases_lt x.0 y.0) [
    | inl before ↦ subst (Each P) (sym (insert-before x y ys before)) (p, h)
    | inr after ↦ subst (Each P) (sym (insert-after x y ys after)) (h.0, each-insert_in P x ys p h.1)
  ]

  pub each-all_in : (P : ℕ × A → Type 0) (xs ys : List (ℕ × A)) → Each P xs → Each P ys → Each P (all_in xs ys)
  each-all_in P [] ys h k = k
  each-all_in P (x ∷ xs) ys h k = each-insert_in P x (all_in xs ys) h.0 (each-all_in P xs ys h.1 k)

  -- a number above all goes to the end
  pub insert-last : (x : ℕ × A) (ys : List (ℕ × A)) → Each (λ y. y.0 < x.0) ys → insert_in x ys ≡ ys ++ x ∷ []
  insert-last x [] h = refl
  insert-last x (y ∷ ys) h =
      let low = h.0 in
      insert-after x y ys (omega arith) ∙ ap (λ zs. y ∷ zs) (insert-last x ys h.1)

  -- and one below all to the front
  pub insert-first : (x : ℕ × A) (ys : List (ℕ × A)) → Each (λ y. x.0 < y.0) ys → insert_in x ys ≡ x ∷ ys
  insert-first x [] h = refl
  insert-first x (y ∷ ys) h = insert-before x y ys h.0

  insert-push : (x e : ℕ × A) (ys : List (ℕ × A)) → x.0 < e.0 → insert_in x (ys ++ e ∷ []) ≡ insert_in x ys ++ e ∷ []
  insert-push x e [] h = insert-before x e [] h
  insert-push x e (y ∷ ys) h = elim (cases_lt x.0 y.0) [
    | inl before ↦ insert-before x y (ys ++ e ∷ []) before ∙ ap (λ zs. zs ++ e ∷ []) (sym (insert-before x y ys before))
    | inr after ↦ insert-after x y (ys ++ e ∷ []) after ∙ (ap (λ zs. y ∷ zs) (insert-push x e ys h) ∙ ap (λ zs. zs ++ e ∷ []) (sym (insert-after x y ys after)))
  ]

  pub all_in-push : (xs ys : List (ℕ × A)) (e : ℕ × A) → Each (λ x. x.0 < e.0) xs → all_in xs (ys ++ e ∷ []) ≡ all_in xs ys ++ e ∷ []
  all_in-push [] ys e h = refl
  all_in-push (x ∷ xs) ys e h = ap (insert_in x) (all_in-push xs ys e h.1) ∙ insert-push x e (all_in xs ys) h.0

  pub all_in-last : (xs ys : List (ℕ × A)) (e : ℕ × A) → all_in (xs ++ e ∷ []) ys ≡ all_in xs (insert_in e ys)
  all_in-last [] ys e = refl
  all_in-last (x ∷ xs) ys e = ap (insert_in x) (all_in-last xs ys e)

  commute_lt : (x y : ℕ × A) (zs : List (ℕ × A)) → x.0 < y.0 → insert_in x (insert_in y zs) ≡ insert_in y (insert_in x zs)
  commute_lt x y [] h =
      let le : x.0 ≤ y.0 = omega arith in
      insert-before x y [] h ∙ sym (insert-after y x [] le)
  commute_lt x y (z ∷ zs) h =
      let le : x.0 ≤ y.0 = omega arith in
      elim (cases_lt y.0 z.0) [
        | inl y_first ↦ (
            let x_first : x.0 < z.0 = omega arith in
            ap (insert_in x) (insert-before y z zs y_first) ∙ (insert-before x y (z ∷ zs) h
            ∙ (ap (λ ws. x ∷ ws) (sym (insert-before y z zs y_first)) ∙ (sym (insert-after y x (z ∷ zs) le) ∙ ap (insert_in y) (sym (insert-before x z zs x_first))))))
        | inr z_first ↦ ap (insert_in x) (insert-after y z zs z_first) ∙ elim (cases_lt x.0 z.0) [
          | inl x_first ↦ insert-before x z (insert_in y zs) x_first
              ∙ (ap (λ ws. x ∷ ws) (sym (insert-after y z zs z_first)) ∙ (sym (insert-after y x (z ∷ zs) le) ∙ ap (insert_in y) (sym (insert-before x z zs x_first))))
          | inr z_low ↦ insert-after x z (insert_in y zs) z_low
              ∙ (ap (λ ws. z ∷ ws) (commute_lt x y zs h) ∙ (sym (insert-after y z (insert_in x zs) z_first) ∙ ap (insert_in y) (sym (insert-after x z zs z_low))))
        ]
      ]

  insert-commute : (x y : ℕ × A) (zs : List (ℕ × A)) → x.0 ≢ y.0 → insert_in x (insert_in y zs) ≡ insert_in y (insert_in x zs)
  insert-commute x y zs h = elim (cases_lt x.0 y.0) [
    | inl less ↦ commute_lt x y zs less
    | inr more ↦ (let less : y.0 < x.0 = omega arith in sym (commute_lt y x zs less))
  ]

  pub all_in-commute : (ys zs : List (ℕ × A)) (x : ℕ × A) → Each (λ y. y.0 ≢ x.0) ys → all_in ys (insert_in x zs) ≡ insert_in x (all_in ys zs)
  all_in-commute [] zs x h = refl
  all_in-commute (y ∷ ys) zs x h = ap (insert_in y) (all_in-commute ys zs x h.1) ∙ insert-commute y x (all_in ys zs) h.0

  -- without the numbers: the item is put at its place
  pub insert-place : (x : ℕ × A) (ys : List (ℕ × A)) → map (λ y. y.1) (insert_in x ys) ≡ insert (map (λ y. y.1) ys) (place_of x.0 ys) x.1
  insert-place x [] = refl
  insert-place x (y ∷ ys) = elim (cases_lt x.0 y.0) [
    | inl before ↦ ap (map (λ z. z.1)) (insert-before x y ys before) ∙ ap (λ n. insert (y.1 ∷ map (λ z. z.1) ys) n x.1) (sym (place-before x.0 y ys before))
    | inr after ↦ ap (map (λ z. z.1)) (insert-after x y ys after) ∙ (ap (λ zs. y.1 ∷ zs) (insert-place x ys) ∙ ap (λ n. insert (y.1 ∷ map (λ z. z.1) ys) n x.1) (sym (place-after x.0 y ys after)))
  ]
