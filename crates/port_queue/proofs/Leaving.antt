-- Which entry of a class may leave, by the numbers.
use Rattle.std.proofs.Common.{◌≡◌, ℕ, ◌≤◌, Bool, true, false, List, [], ◌∷◌, Some, None, refl, ap, ◌∙◌, inl, inr}
use Rattle.std.specs.Prelude.{map}
use Rattle.std.proofs.lemmas.Bool.{cases_lt}
use Rattle.ordering.specs.Ordering.{Class, same_class, passes, behind}
use Rattle.ordering.proofs.Classes.{passes-same_class}
use Rattle.port_queue.specs.Arrivals.{Each, insert_in}
use Rattle.port_queue.specs.Queue.{taken_of}
use Rattle.port_queue.proofs.Merging.{insert-before, insert-after}

module _ {T : Type 0} where
  abbrev pub items : List (ℕ × (Class × T)) → List (Class × T)
  items ys = map (λ y. y.1) ys

  -- an entry of the class leaves where it may pass each one of a smaller number
  pub leaves_by_number : (c : Class) (x : ℕ × (Class × T)) (ys : List (ℕ × (Class × T))) → same_class c x.1.0 ≡ true → Each (λ y. y.0 ≤ x.0 → passes c y.1.0 ≡ true) ys
      → taken_of c (items (insert_in x ys)) ≡ Some (x.1, items ys)
  leaves_by_number c x [] same h = rw same refl
  leaves_by_number c x (y ∷ ys) same h = elim (cases_lt x.0 y.0) [
    | inl before ↦ ap (λ zs. taken_of c (items zs)) (insert-before x y ys before) ∙ rw same refl
    | inr after ↦ (
        let over : passes c y.1.0 ≡ true = h.0 after in
        let other : same_class c y.1.0 ≡ false = passes-same_class c y.1.0 over in
        ap (λ zs. taken_of c (items zs)) (insert-after x y ys after) ∙ (rw (other, over) refl ∙ ap (behind y.1) (leaves_by_number c x ys same h.1)))
  ]

  later : (c : Class) (y : ℕ × (Class × T)) (zs : List (Class × T)) → same_class c y.1.0 ≡ false → taken_of c zs ≡ None → taken_of c (y.1 ∷ zs) ≡ None
  later c y zs not_y rest = by_pass (passes c y.1.0) refl
    where
      by_pass : (b : Bool) → passes c y.1.0 ≡ b → taken_of c (y.1 ∷ zs) ≡ None
      by_pass true e = rw (not_y, e) (ap (behind y.1) rest)
      by_pass false e = rw (not_y, e) refl

  -- none leaves where one that may not be passed has a smaller number than each of the class
  pub stays_by_number : (c : Class) (x : ℕ × (Class × T)) (ys : List (ℕ × (Class × T))) → same_class c x.1.0 ≡ false → passes c x.1.0 ≡ false → Each (λ y. y.0 ≤ x.0 → same_class c y.1.0 ≡ false) ys
      → taken_of c (items (insert_in x ys)) ≡ None
  stays_by_number c x [] other stop h = rw (other, stop) refl
  stays_by_number c x (y ∷ ys) other stop h = elim (cases_lt x.0 y.0) [
    | inl before ↦ ap (λ zs. taken_of c (items zs)) (insert-before x y ys before) ∙ rw (other, stop) refl
    | inr after ↦ (
        let not_y : same_class c y.1.0 ≡ false = h.0 after in
        ap (λ zs. taken_of c (items zs)) (insert-after x y ys after) ∙ later c y (items (insert_in x ys)) not_y (stays_by_number c x ys other stop h.1))
  ]

  -- none leaves where none waits
  pub none_waits : (c : Class) (ys : List (ℕ × (Class × T))) → Each (λ y. same_class c y.1.0 ≡ false) ys → taken_of c (items ys) ≡ None
  none_waits c [] h = refl
  none_waits c (y ∷ ys) h = later c y (items ys) h.0 (none_waits c ys h.1)
