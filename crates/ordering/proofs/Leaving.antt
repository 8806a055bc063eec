-- `take_one` gives exactly the item that may pass every older one.
use Rattle.std.proofs.Common.{◌≡◌, ◌↔◌, Bool, true, false, List, [], ◌∷◌, ◌++◌, All, Option, Some, None, refl, sym, ap, ◌∙◌, subst}
use Rattle.std.proofs.lemmas.List.Elements.{All-nil, All-cons, All-head, All-tail}
use Rattle.ordering.specs.Ordering.{Class, passes, same_class, at_item, take_one, Leaves, TakesTheEligible}
use Rattle.ordering.proofs.Classes.{passes-same_class, same_class_same, same_class-true}

module _ {T : Type 0} (class_of : T → Class) (c : Class) where
  -- a queue with one more item, which is older and may be passed
  leaves_behind : (y : T) (ys : List T) (x : T) (rest : List T) → passes c (class_of y) ≡ true → Leaves class_of c ys x rest → Leaves class_of c (y ∷ ys) x (y ∷ rest)
  leaves_behind y ys x rest over l = record {
    older = y ∷ l.older;
    newer = l.newer;
    queue = ap (λ zs. y ∷ zs) l.queue;
    is_left = ap (λ zs. y ∷ zs) l.is_left;
    of_class = l.of_class;
    passes_older = All-cons (λ z. passes c (class_of z) ≡ true) y l.older over l.passes_older;
  }

  found_here : (y : T) (ys : List T) (x : T) (rest : List T) → same_class c (class_of y) ≡ true → y ≡ x → ys ≡ rest → Leaves class_of c (y ∷ ys) x rest
  found_here y ys x rest same is left = record {
    older = [];
    newer = ys;
    queue = ap (λ z. z ∷ ys) is;
    is_left = sym left;
    of_class = let d = same_class-true c (class_of y) same in cc;
    passes_older = All-nil (λ z. passes c (class_of z) ≡ true);
  }

  found : (y : T) (ys : List T) (x : T) (rest : List T) (same over : Bool) → same_class c (class_of y) ≡ same → passes c (class_of y) ≡ over
      → (later : Option (T × List T)) → ((z : T) (zs : List T) → later ≡ Some (z, zs) → Leaves class_of c ys z zs)
      → at_item same over y ys later ≡ Some (x, rest) → Leaves class_of c (y ∷ ys) x rest
  found y ys x rest true over s o later h e =
      let pair : ◌≡◌ {A = T × List T} (y, ys) (x, rest) = cc in
      found_here y ys x rest s (ap (λ p. p.0) pair) (ap (λ p. p.1) pair)
  found y ys x rest false true s o None h e = cc
  found y ys x rest false true s o (Some r) h e =
      let pair : ◌≡◌ {A = T × List T} (r.0, y ∷ r.1) (x, rest) = cc in
      let at_x : r.0 ≡ x = ap (λ p. p.0) pair in
      let left : y ∷ r.1 ≡ rest = ap (λ p. p.1) pair in
      let P : T → Type 0 = λ z. Leaves class_of c (y ∷ ys) z (y ∷ r.1) in
      let Q : List T → Type 0 = λ zs. Leaves class_of c (y ∷ ys) x zs in
      subst Q left (subst P at_x (leaves_behind y ys r.0 r.1 o (h r.0 r.1 refl)))
  found y ys x rest false false s o later h e = cc

  pub taken_leaves : (xs : List T) (x : T) (rest : List T) → take_one class_of c xs ≡ Some (x, rest) → Leaves class_of c xs x rest
  taken_leaves [] x rest e = cc
  taken_leaves (y ∷ ys) x rest e =
      found y ys x rest (same_class c (class_of y)) (passes c (class_of y)) refl refl (take_one class_of c ys) (taken_leaves ys) e

  -- an item behind others that it may pass
  pub take_one-older : (older newer : List T) (x : T) → class_of x ≡ c → All (λ y. passes c (class_of y) ≡ true) older → take_one class_of c (older ++ x ∷ newer) ≡ Some (x, older ++ newer)
  take_one-older [] newer x e h =
      let same : same_class c (class_of x) ≡ true = rw e (same_class_same c) in
      rw same refl
  take_one-older (y ∷ ys) newer x e h =
      let over : passes c (class_of y) ≡ true = All-head (λ z. passes c (class_of z) ≡ true) y ys h in
      let rest = All-tail (λ z. passes c (class_of z) ≡ true) y ys h in
      let other : same_class c (class_of y) ≡ false = passes-same_class c (class_of y) over in
      rw (other, over, take_one-older ys newer x e rest) refl

  leaves_taken : (xs : List T) (x : T) (rest : List T) → Leaves class_of c xs x rest → take_one class_of c xs ≡ Some (x, rest)
  leaves_taken xs x rest l =
      let is = take_one-older l.older l.newer x l.of_class l.passes_older in
      let queue = l.queue in
      let left = l.is_left in
      ap (take_one class_of c) queue ∙ (is ∙ ap (λ zs. Some (x, zs)) (sym left))

  pub taken-Leaves : (xs rest : List T) (x : T) → (take_one class_of c xs ≡ Some (x, rest)) ↔ Leaves class_of c xs x rest
  taken-Leaves xs rest x = (taken_leaves xs x rest, leaves_taken xs x rest)

pub takes_the_eligible : (T : Type 0) → TakesTheEligible T
takes_the_eligible T class_of c xs rest x = taken-Leaves class_of c xs rest x
