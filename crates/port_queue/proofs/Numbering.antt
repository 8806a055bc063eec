-- The numbers of three queues: each in order, no number in two.
use Rattle.std.proofs.Common.{◌≡◌, ◌≢◌, ℕ, ◌+◌, ◌<◌, Bool, true, false, List, [], ◌∷◌, ◌++◌, Option, Some, None, refl, sym, subst, arith}
use Rattle.std.specs.Prelude.{if◌then◌else◌}
use Rattle.ordering.specs.Ordering.{Class, same_class}
use Rattle.ordering.proofs.Classes.{same_class-true}
use Rattle.port_queue.specs.Arrivals.{Gap, Each, Rising, AreNumbered, with_gap}
use Rattle.port_queue.proofs.Merging.{each_weaker, each-push}

pub AreNumbered-cong : (f g : Class → List ℕ) (next : ℕ) → ((d : Class) → f d ≡ g d) → AreNumbered f next → AreNumbered g next
AreNumbered-cong f g next h s = record {
  rising = λ c. subst Rising (h c) (s.rising c);
  apart = λ c d other.
      let P : List ℕ → Type 0 = λ xs. Each (λ x. Each (λ y. y ≢ x) xs) (f c) in
      let Q : List ℕ → Type 0 = λ xs. Each (λ x. Each (λ y. y ≢ x) (g d)) xs in
      subst Q (h c) (subst P (h d) (s.apart c d other));
  below = λ c. subst (Each (λ x. x < next)) (h c) (s.below c);
}

pub each-tail : (P : ℕ → Type 0) (b : Bool) (n : ℕ) (xs : List ℕ) → Each P (if b then n ∷ xs else xs) → Each P xs
each-tail P true n xs h = h.1
each-tail P false n xs h = h

rising-tail : (b : Bool) (n : ℕ) (xs : List ℕ) → Rising (if b then n ∷ xs else xs) → Rising xs
rising-tail true n xs h = h.1
rising-tail false n xs h = h

-- without the gap
pub AreNumbered-filled : (gap : Option Gap) (f : Class → List ℕ) (next : ℕ) → AreNumbered (with_gap gap f) next → AreNumbered f next
AreNumbered-filled None f next s = s
AreNumbered-filled (Some g) f next s = record {
  rising = λ c. rising-tail (same_class c g.class) g.number (f c) (s.rising c);
  apart = λ c d other.
      each_weaker (λ x. Each (λ y. y ≢ x) (if same_class d g.class then g.number ∷ f d else f d)) (λ x. Each (λ y. y ≢ x) (f d))
      (λ x h. each-tail (λ y. y ≢ x) (same_class d g.class) g.number (f d) h) (f c)
      (each-tail (λ x. Each (λ y. y ≢ x) (if same_class d g.class then g.number ∷ f d else f d)) (same_class c g.class) g.number (f c) (s.apart c d other));
  below = λ c. each-tail (λ x. x < next) (same_class c g.class) g.number (f c) (s.below c);
}

rising-push : (xs : List ℕ) (n : ℕ) → Rising xs → Each (λ x. x < n) xs → Rising (xs ++ n ∷ [])
rising-push [] n r h = (tt, tt)
rising-push (x ∷ xs) n r h = (each-push (λ y. x < y) xs n r.0 h.0, rising-push xs n r.1 h.1)

each-pushed : (P : ℕ → Type 0) (b : Bool) (xs : List ℕ) (n : ℕ) → Each P xs → (b ≡ true → P n) → Each P (if b then xs ++ n ∷ [] else xs)
each-pushed P true xs n h p = each-push P xs n h (p refl)
each-pushed P false xs n h p = h

rising-pushed : (b : Bool) (xs : List ℕ) (n : ℕ) → Rising xs → Each (λ x. x < n) xs → Rising (if b then xs ++ n ∷ [] else xs)
rising-pushed true xs n r h = rising-push xs n r h
rising-pushed false xs n r h = r

not_below : (n : ℕ) (xs : List ℕ) → Each (λ x. x < n) xs → Each (λ y. y ≢ n) xs
not_below n xs h = each_weaker (λ x. x < n) (λ y. y ≢ n) (λ x l e. absurd (omega arith)) xs h

pub other_way : (c d : Class) → same_class c d ≡ false → same_class d c ≡ false
other_way Class.Posted Class.Posted e = cc
other_way Class.Posted Class.NonPosted e = refl
other_way Class.Posted Class.Completion e = refl
other_way Class.NonPosted Class.Posted e = refl
other_way Class.NonPosted Class.NonPosted e = cc
other_way Class.NonPosted Class.Completion e = refl
other_way Class.Completion Class.Posted e = refl
other_way Class.Completion Class.NonPosted e = refl
other_way Class.Completion Class.Completion e = cc

two_places : (c d k : Class) → same_class c d ≡ false → same_class c k ≡ true → same_class d k ≡ false
two_places c d k other here = subst (λ x. same_class d x ≡ false) (sym (same_class-true c k here)) (other_way c d other)

pub AreNumbered-pushed : (f : Class → List ℕ) (k : Class) (next : ℕ) → AreNumbered f next → AreNumbered (λ c. if same_class c k then f c ++ next ∷ [] else f c) (next + 1)
AreNumbered-pushed f k next s = record {
  rising = λ c. rising-pushed (same_class c k) (f c) next (s.rising c) (s.below c);
  apart = λ c d other. apart c d other;
  below = λ c. each-pushed (λ x. x < next + 1) (same_class c k) (f c) next (each_weaker (λ x. x < next) (λ x. x < next + 1) (λ x l. omega arith) (f c) (s.below c)) (λ e. omega arith);
}
  where
    apart : (c d : Class) → same_class c d ≡ false → Each (λ x. Each (λ y. y ≢ x) (if same_class d k then f d ++ next ∷ [] else f d)) (if same_class c k then f c ++ next ∷ [] else f c)
    apart c d other = each-pushed (λ x. Each (λ y. y ≢ x) (if same_class d k then f d ++ next ∷ [] else f d)) (same_class c k) (f c) next
        (each_weaker (λ x. Each (λ y. y ≢ x) (f d) × (x < next)) (λ x. Each (λ y. y ≢ x) (if same_class d k then f d ++ next ∷ [] else f d))
        (λ x h. each-pushed (λ y. y ≢ x) (same_class d k) (f d) next h.0 (λ e same. absurd (let l = h.1 in omega arith))) (f c)
        (both (λ x. Each (λ y. y ≢ x) (f d)) (λ x. x < next) (f c) (s.apart c d other) (s.below c)))
        (λ here. each-pushed (λ y. y ≢ next) (same_class d k) (f d) next (not_below next (f d) (s.below d)) (λ there. absurd (clash (two_places c d k other here) there)))
      where
        both : (P Q : ℕ → Type 0) (xs : List ℕ) → Each P xs → Each Q xs → Each (λ x. P x × Q x) xs
        both P Q [] h l = tt
        both P Q (x ∷ xs) h l = ((h.0, l.0), both P Q xs h.1 l.1)

        clash : same_class d k ≡ false → same_class d k ≡ true → ⊥
        clash never always = cc
