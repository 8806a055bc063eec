-- A packet that joins the outbox at which a way begins stands behind all on it.
use Rattle.std.proofs.Common.{◌≡◌, ◌≢◌, inl, inr, Bool, true, false, List, [], ◌∷◌, ◌++◌, refl, sym, ap, ◌∙◌, subst, append_assoc, append-nil, ⊎_elim, ◌&&◌, ◌||◌, not}
use Rattle.std.specs.Prelude.{All}
use Rattle.std.specs.List.{flat_map}
use Rattle.std.proofs.lemmas.List.Elements.{All-append, All-head, All-nil, All-tail}
use Rattle.std.proofs.lemmas.Grind.{flat_map-append}
use Rattle.fab_types.specs.declared.place.Place.{Place}
use Rattle.frame_log.specs.Descriptor.{Descriptor}
use Rattle.fabric_core.specs.Trails.{In, InOrderOnWay, is_ahead, never}
use Rattle.fabric_core.proofs.order.Ahead.{ahead_more}
use Rattle.fabric_core.proofs.order.WayOrder.{IsNo, all_joined}
use Rattle.fabric_core.proofs.order.AtPlaces.{Joining, Standings}
use Rattle.fabric_core.proofs.order.Trails.{IsNot}

module _ (p q : Descriptor → Bool) where
  one_ahead : (first : Bool) (x : Descriptor) (a b : Bool) → q x ≡ false → (a ≡ true → b ≡ true) → first || (not false && a) ≡ true → first || (not (q x) && b) ≡ true
  one_ahead true x a b other goes is = refl
  one_ahead false x a b other goes is = ap (λ (c : Bool). not c && b) other ∙ goes is

  -- where none of the second kind stands the first is in front of it
  pub ahead_of_none : (xs : List Descriptor) → All (IsNo q) xs → is_ahead p never xs ≡ true → is_ahead p q xs ≡ true
  ahead_of_none [] none is = is
  ahead_of_none (x ∷ xs) none is =
      one_ahead (p x) x (is_ahead p never xs) (is_ahead p q xs) (All-head (IsNo q) x xs none) (ahead_of_none xs (All-tail (IsNo q) x xs none)) is

  -- the second kind joins behind the first
  module _ (f f' : Standings) (last : Place) (z : Descriptor) (j : Joining f f' last z) (is_no : p z ≡ false) (none : (r : Place) → All (IsNo q) (f r)) where
    same_at : (r : Place) → r ≢ last → f' r ≡ f r
    same_at r other = ⊎_elim (λ same. same) (λ e. absurd (other e)) (j.others r)

    same_flat : (places : List Place) → IsNot last places → flat_map f' places ≡ flat_map f places
    same_flat [] other = refl
    same_flat (x ∷ xs) other =
        ap (λ (ys : List Descriptor). ys ++ flat_map f' xs) (same_at x (λ e. other.0 (sym e))) ∙ ap (λ (ys : List Descriptor). f x ++ ys) (same_flat xs other.1)

    last_in : (places : List Place) → In last (places ++ last ∷ [])
    last_in [] = inl refl
    last_in (x ∷ xs) = inr (last_in xs)

    none_in : (places : List Place) → All (IsNo q) (flat_map f places)
    none_in [] = All-nil (IsNo q)
    none_in (x ∷ xs) = All-append (IsNo q) (f x) (flat_map f xs) (none x) (none_in xs)

    trail_more : (places : List Place) → IsNot last places → flat_map f' (places ++ last ∷ []) ≡ flat_map f (places ++ last ∷ []) ++ z ∷ []
    trail_more places other =
        flat_map-append f' places (last ∷ [])
        ∙ (ap (λ (xs : List Descriptor). xs ++ flat_map f' (last ∷ [])) (same_flat places other)
        ∙ (ap (λ (xs : List Descriptor). flat_map f places ++ (xs ++ [])) j.put
        ∙ (ap (λ (xs : List Descriptor). flat_map f places ++ xs) (append-nil (f last ++ z ∷ []))
        ∙ (sym (append_assoc (flat_map f places) (f last) (z ∷ []))
        ∙ ap (λ (xs : List Descriptor). xs ++ z ∷ []) (ap (λ (xs : List Descriptor). flat_map f places ++ xs) (sym (append-nil (f last))) ∙ sym (flat_map-append f places (last ∷ [])))))))

    pub joins_behind : (places : List Place) → IsNot last places → InOrderOnWay f (places ++ last ∷ []) p never → InOrderOnWay f' (places ++ last ∷ []) p q
    joins_behind places other t = record {
      ahead = subst (λ (xs : List Descriptor). is_ahead p q xs ≡ true) (sym (trail_more places other))
          (ahead_more p q (flat_map f (places ++ last ∷ [])) (z ∷ []) (ahead_of_none (flat_map f (places ++ last ∷ [])) (none_in (places ++ last ∷ [])) t.ahead));
      first_on = λ r. ⊎_elim (λ at. inl at) (λ no_first. inr (all_joined f f' last z j (IsNo p) is_no r no_first)) (t.first_on r);
      second_on = λ r. ⊎_elim (λ same. inr (subst (All (IsNo q)) (sym same) (none r))) (λ e. inl (subst (λ (x : Place). In x (places ++ last ∷ [])) (sym e) (last_in places))) (j.others r);
    }

-- ---- the first kind itself joins

module _ (p : Descriptor → Bool) where
  one_more : (first a : Bool) → a ≡ true → first || (not false && a) ≡ true
  one_more true a is = refl
  one_more false a is = is

  alone_at : (z : Descriptor) (b : Bool) → p z ≡ b → b ≡ true → is_ahead p never (z ∷ []) ≡ true
  alone_at z true e is = ap (λ (c : Bool). c || (not false && false)) e
  alone_at z false e is = absurd cc

  at_last : (xs : List Descriptor) (z : Descriptor) → p z ≡ true → is_ahead p never (xs ++ z ∷ []) ≡ true
  at_last [] z is = alone_at z (p z) refl is
  at_last (x ∷ xs) z is = one_more (p x) (is_ahead p never (xs ++ z ∷ [])) (at_last xs z is)

  pub starts_there : (f f' : Standings) (last : Place) (z : Descriptor) → Joining f f' last z → p z ≡ true → ((r : Place) → All (IsNo p) (f r)) → (places : List Place) → IsNot last places → InOrderOnWay f' (places ++ last ∷ []) p never
  starts_there f f' last z j is none places other = record {
    ahead =
        subst (λ (xs : List Descriptor). is_ahead p never xs ≡ true) (sym (trail_more never p f f' last z j refl none places other)) (at_last (flat_map f (places ++ last ∷ [])) z is);
    first_on = λ r. ⊎_elim (λ same. inr (subst (All (IsNo p)) (sym same) (none r))) (λ e. inl (subst (λ (x : Place). In x (places ++ last ∷ [])) (sym e) (last_in never p f f' last z j refl none places))) (j.others r);
    second_on = λ r. inr (λ k d less. refl);
  }
