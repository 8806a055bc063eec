-- Lists that lose some elements and gain others, wherever in them these stand.
use Rattle.std.proofs.Common.{◌≡◌, ℕ, zero, suc, ◌+◌, ◌<◌, Bool, cond, List, [], ◌∷◌, ◌++◌, length, get_or, set, Some, refl, sym, subst, arith}
use Rattle.std.specs.Prelude.{All, count_by}
use Rattle.std.specs.List.{flat_map}
use Rattle.std.proofs.lemmas.List.Elements.{All-append, All-cons, All-head, All-nil, All-tail}
use Rattle.std.proofs.lemmas.List.Sums.{sum_by-append, sum_by-cons}
use Rattle.fab_types.specs.declared.class.Class.{Class}
use Rattle.ordering.specs.Ordering.{take_one}
use Rattle.ordering.proofs.Leaving.{taken_leaves}

module _ {A : Type 0} where
  -- the same elements, but those that were lost and those that were gained
  pub record Changed (old new lost gained : List A) : Type 1 where
    pub counted : (p : A → Bool) → count_by p new + count_by p lost ≡ count_by p old + count_by p gained
    pub left : (P : A → Type 0) → All P old → All P gained → All P new
    pub found : (P : A → Type 0) → All P old → All P lost

  -- ---- of parts

  pub all_front : (P : A → Type 0) (xs ys : List A) → All P (xs ++ ys) → All P xs
  all_front P [] ys h = All-nil P
  all_front P (x ∷ xs) ys h = All-cons P x xs (All-head P x (xs ++ ys) h) (all_front P xs ys (All-tail P x (xs ++ ys) h))

  pub all_back : (P : A → Type 0) (xs ys : List A) → All P (xs ++ ys) → All P ys
  all_back P [] ys h = h
  all_back P (x ∷ xs) ys h = all_back P xs ys (All-tail P x (xs ++ ys) h)

  pub count_append : (p : A → Bool) (xs ys : List A) → count_by p (xs ++ ys) ≡ count_by p xs + count_by p ys
  count_append p xs ys = sum_by-append (λ x. cond (p x) 1 0) xs ys

  pub unchanged : (xs : List A) → Changed xs xs [] []
  unchanged xs = record { counted = λ p. refl; left = λ P h none. h; found = λ P h. All-nil P }

  pub at_front : (xs ys zs lost gained : List A) → Changed xs ys lost gained → Changed (xs ++ zs) (ys ++ zs) lost gained
  at_front xs ys zs lost gained c = record {
    counted = λ p. omega (arith, c.counted p, count_append p xs zs, count_append p ys zs);
    left = λ P h g. All-append P ys zs (c.left P (all_front P xs zs h) g) (all_back P xs zs h);
    found = λ P h. c.found P (all_front P xs zs h);
  }

  pub at_back : (zs xs ys lost gained : List A) → Changed xs ys lost gained → Changed (zs ++ xs) (zs ++ ys) lost gained
  at_back zs xs ys lost gained c = record {
    counted = λ p. omega (arith, c.counted p, count_append p zs xs, count_append p zs ys);
    left = λ P h g. All-append P zs ys (all_front P zs xs h) (c.left P (all_back P zs xs h) g);
    found = λ P h. c.found P (all_back P zs xs h);
  }

  -- one of many lists
  pub at_one : {X : Type 0} (f : X → List A) (xs : List X) (i : ℕ) (d y : X) (lost gained : List A) → i < length xs → Changed (f (get_or xs i d)) (f y) lost gained
      → Changed (flat_map f xs) (flat_map f (set xs i y)) lost gained
  at_one f [] i d y lost gained there c = absurd (omega arith)
  at_one f (x ∷ xs) zero d y lost gained there c = at_front (f x) (f y) (flat_map f xs) lost gained c
  at_one f (x ∷ xs) (suc i) d y lost gained there c = at_back (f x) (flat_map f xs) (flat_map f (set xs i y)) lost gained (at_one f xs i d y lost gained (omega arith) c)

  -- ---- one after another

  pub then_gained : (xs ys zs lost gained : List A) → Changed xs ys lost [] → Changed ys zs [] gained → Changed xs zs lost gained
  then_gained xs ys zs lost gained a b = record {
    counted = λ p. omega (arith, a.counted p, b.counted p);
    left = λ P h g. b.left P (a.left P h (All-nil P)) g;
    found = λ P h. a.found P h;
  }

  -- what is lost in one place stands in another
  pub then_back : (xs ys zs moved : List A) → Changed xs ys moved [] → Changed ys zs [] moved → Changed xs zs [] []
  then_back xs ys zs moved a b = record {
    counted = λ p. omega (arith, a.counted p, b.counted p);
    left = λ P h none. b.left P (a.left P h (All-nil P)) (a.found P h);
    found = λ P h. All-nil P;
  }

  -- what is lost in front stands behind
  pub moved_behind : (xs ys zs moved gained : List A) → Changed xs ys moved gained → Changed (xs ++ zs) (ys ++ (moved ++ zs)) [] gained
  moved_behind xs ys zs moved gained c = record {
    counted = λ p. omega (arith, c.counted p, count_append p xs zs, count_append p ys (moved ++ zs), count_append p moved zs);
    left = λ P h g.
        let front = all_front P xs zs h in
        All-append P ys (moved ++ zs) (c.left P front g) (All-append P moved zs (c.found P front) (all_back P xs zs h));
    found = λ P h. All-nil P;
  }

  -- ---- one element

  pub grown : (xs ys : List A) → Changed xs (xs ++ ys) [] ys
  grown xs ys = record {
    counted = λ p. omega (arith, count_append p xs ys);
    left = λ P h g. All-append P xs ys h g;
    found = λ P h. All-nil P;
  }

  pub without_one : (older newer : List A) (x : A) → Changed (older ++ x ∷ newer) (older ++ newer) (x ∷ []) []
  without_one older newer x = at_back older (x ∷ newer) newer (x ∷ []) [] (record {
    counted = λ p. omega (arith, sum_by-cons (λ y. cond (p y) 1 0) x newer);
    left = λ P h none. All-tail P x newer h;
    found = λ P h. All-cons P x [] (All-head P x newer h) (All-nil P);
  })

  -- what is taken of a queue
  pub taken_out : (class_of : A → Class) (class : Class) (xs rest : List A) (x : A) → take_one class_of class xs ≡ Some (x, rest) → Changed xs rest (x ∷ []) []
  taken_out class_of class xs rest x e =
      let l = taken_leaves class_of class xs x rest e in
      subst (λ (ys : List A). Changed ys rest (x ∷ []) []) (sym l.queue)
      (subst (λ (ys : List A). Changed (l.older ++ x ∷ l.newer) ys (x ∷ []) []) (sym l.is_left) (without_one l.older l.newer x))
