-- What may leave three queues, and what is then left.
use Rattle.std.proofs.Common.{◌≡◌, ◌≢◌, ℕ, ◌<◌, ◌≤◌, Bool, true, false, List, [], ◌∷◌, ◌++◌, Option, Some, None, refl, sym, ap, ◌∙◌, subst, inl, inr, arith, slice_get}
use Rattle.std.specs.Prelude.{map, insert, if◌then◌else◌}
use Rattle.std.proofs.lemmas.Bool.Decides.{leb_tells}
use Rattle.ordering.specs.Ordering.{Class, same_class, passes}
use Rattle.ordering.proofs.Classes.{same_class-true, same_class_same}
use Rattle.port_queue.specs.Arrivals.{Entry, Each, insert_in, place_of, tagged, arrivals, waiting_of, queue_of, numbers_of, may_leave, with_gap, Rising, AreNumbered}
use Rattle.port_queue.specs.PerClass.{PerClass, at_class, with_class}
use Rattle.port_queue.specs.Queue.{taken_of, restored}
use Rattle.port_queue.proofs.Merging.{each_weaker, each_all, each-from_map, insert-place}
use Rattle.port_queue.proofs.Leaving.{items, leaves_by_number, stays_by_number, none_waits}
use Rattle.port_queue.proofs.Arriving.{passes_unless, fronted, arrivals-cong, each-arrivals, arrivals-fronted}
use Rattle.port_queue.proofs.Numbering.{other_way}

passes_posted : (c : Class) → passes c Class.Posted ≡ false
passes_posted Class.Posted = refl
passes_posted Class.NonPosted = refl
passes_posted Class.Completion = refl

module _ {Q : Type 0} where
  pub at_class-own : (l : PerClass Q) (c : Class) (q : Q) → at_class (with_class l c q) c ≡ q
  at_class-own l Class.Posted q = refl
  at_class-own l Class.NonPosted q = refl
  at_class-own l Class.Completion q = refl

  pub at_class-other : (l : PerClass Q) (c d : Class) (q : Q) → same_class d c ≡ false → at_class (with_class l c q) d ≡ at_class l d
  at_class-other l Class.Posted Class.Posted q e = cc
  at_class-other l Class.Posted Class.NonPosted q e = refl
  at_class-other l Class.Posted Class.Completion q e = refl
  at_class-other l Class.NonPosted Class.Posted q e = refl
  at_class-other l Class.NonPosted Class.NonPosted q e = cc
  at_class-other l Class.NonPosted Class.Completion q e = refl
  at_class-other l Class.Completion Class.Posted q e = refl
  at_class-other l Class.Completion Class.NonPosted q e = refl
  at_class-other l Class.Completion Class.Completion q e = cc

module _ {T : Type 0} where
  -- f is g with an entry in front of one queue
  pub record Fronts (f g : Class → List (Entry T)) (c : Class) (e : Entry T) : Type 0 where
    pub own : f c ≡ e ∷ g c
    pub others : (d : Class) → same_class d c ≡ false → f d ≡ g d

  -- g is f with an entry at the end of one queue
  pub record Adds (f g : Class → List (Entry T)) (c : Class) (e : Entry T) : Type 0 where
    pub own : g c ≡ f c ++ e ∷ []
    pub others : (d : Class) → same_class d c ≡ false → g d ≡ f d

  fronts_at : (f g : Class → List (Entry T)) (c : Class) (e : Entry T) → Fronts f g c e → (d : Class) (b : Bool) → same_class d c ≡ b → f d ≡ (if b then e ∷ g d else g d)
  fronts_at f g c e h d true same = let P : Class → Type 0 = λ x. f x ≡ e ∷ g x in subst P (same_class-true d c same) h.own
  fronts_at f g c e h d false other = h.others d other

  pub adds_at : (f g : Class → List (Entry T)) (c : Class) (e : Entry T) → Adds f g c e → (d : Class) (b : Bool) → same_class d c ≡ b → g d ≡ (if b then f d ++ e ∷ [] else f d)
  adds_at f g c e h d true same = let P : Class → Type 0 = λ x. g x ≡ f x ++ e ∷ [] in subst P (same_class-true d c same) h.own
  adds_at f g c e h d false other = h.others d other

  -- the numbers of f are those of g and of the gap that the entry leaves
  numbers_at : (f g : Class → List (Entry T)) (c : Class) (e : Entry T) → Fronts f g c e → (d : Class) (b : Bool) → same_class d c ≡ b → (if b then e.number ∷ numbers_of g d else numbers_of g d) ≡ numbers_of f d
  numbers_at f g c e h d true same = ap (map (λ x. x.number)) (sym (fronts_at f g c e h d true same))
  numbers_at f g c e h d false other = ap (map (λ x. x.number)) (sym (h.others d other))

  pub numbers-fronts : (f g : Class → List (Entry T)) (c : Class) (e : Entry T) → Fronts f g c e → (d : Class) → with_gap (Some (record { class = c; number = e.number })) (numbers_of g) d ≡ numbers_of f d
  numbers-fronts f g c e h d = numbers_at f g c e h d (same_class d c) refl

  pub first_apart : (f g : Class → List (Entry T)) (next : ℕ) (c : Class) (e : Entry T) → AreNumbered (numbers_of f) next → Fronts f g c e → (d : Class) → same_class d c ≡ false → Each (λ x. x.number ≢ e.number) (f d)
  first_apart f g next c e s h d other =
      let P : List ℕ → Type 0 = λ xs. Each (λ x. Each (λ y. y ≢ x) (numbers_of f d)) xs in
      each-from_map (λ y. y ≢ e.number) (λ x. x.number) (f d) (subst P (ap (map (λ x. x.number)) h.own) (s.apart c d (other_way d c other))).0

  apart_g : (f g : Class → List (Entry T)) (next : ℕ) (c : Class) (e : Entry T) → AreNumbered (numbers_of f) next → Fronts f g c e → (d : Class) → same_class d c ≡ false → Each (λ x. x.number ≢ e.number) (g d)
  apart_g f g next c e s h d other = subst (Each (λ x. x.number ≢ e.number)) (h.others d other) (first_apart f g next c e s h d other)

  pub rising_rest : (f g : Class → List (Entry T)) (next : ℕ) (c : Class) (e : Entry T) → AreNumbered (numbers_of f) next → Fronts f g c e → Each (λ x. e.number < x.number) (g c)
  rising_rest f g next c e s h = each-from_map (λ y. e.number < y) (λ x. x.number) (g c) (subst Rising (ap (map (λ x. x.number)) h.own) (s.rising c)).0

  -- the one list is that without the entry, and the entry put in by its number
  pub arrivals-Fronts : (f g : Class → List (Entry T)) (next : ℕ) (c : Class) (e : Entry T) → AreNumbered (numbers_of f) next → Fronts f g c e → arrivals f ≡ insert_in (tagged c e) (arrivals g)
  arrivals-Fronts f g next c e s h =
      arrivals-cong f (fronted g c e) (λ d. fronts_at f g c e h d (same_class d c) refl) ∙ arrivals-fronted g c e (apart_g f g next c e s h)

  pub restores : (f g : Class → List (Entry T)) (next : ℕ) (c : Class) (e : Entry T) → AreNumbered (numbers_of f) next → Fronts f g c e
      → restored (queue_of g (Some (record { class = c; number = e.number }))) c e.item ≡ Some (waiting_of f)
  restores f g next c e s h =
      let same = same_class_same c in
      let found : Option (List (Class × T)) = Some (insert (waiting_of g) (place_of e.number (arrivals g)) (c, e.item)) in
      ap (λ b. if b then found else None) same ∙ (ap (λ ws. Some ws) (sym (ap items (arrivals-Fronts f g next c e s h) ∙ insert-place (tagged c e) (arrivals g))))

  -- all posted ones are newer than the oldest entry of another class, if the oldest is
  posted_above : (f : Class → List (Entry T)) (next : ℕ) (n : ℕ) (ps : List (Entry T)) (e : Entry T) → f Class.Posted ≡ ps → Rising (map (λ x. x.number) ps) → Each (λ x. x.number ≢ e.number) ps → may_leave (Some e) (slice_get ps 0) ≡ true
      → Each (λ x. e.number < x.number) ps
  posted_above f next n [] e is rising apart may = tt
  posted_above f next n (p ∷ ps) e is rising apart may =
      let le : e.number ≤ p.number = elim (leb_tells e.number p.number) [ inl within ↦ within.1 | inr beyond ↦ (let bad = beyond.0 in cc) ] in
      let differ = apart.0 in
      let lt : e.number < p.number = omega arith in
      (lt, each_weaker (λ x. p.number < x.number) (λ x. e.number < x.number) (λ x l. omega arith) ps (each-from_map (λ y. p.number < y) (λ x. x.number) ps rising.0))

  pub eligible_leaves : (f g : Class → List (Entry T)) (next : ℕ) (c : Class) (e : Entry T) → AreNumbered (numbers_of f) next → Fronts f g c e → may_leave (Some e) (slice_get (f Class.Posted) 0) ≡ true
      → taken_of c (waiting_of f) ≡ Some ((c, e.item), waiting_of g)
  eligible_leaves f g next c e s h may =
      ap (λ ys. taken_of c (items ys)) (arrivals-Fronts f g next c e s h)
      ∙ leaves_by_number c (tagged c e) (arrivals g) (same_class_same c) (each-arrivals (λ y. y.0 ≤ e.number → passes c y.1.0 ≡ true) g (λ d. by_class d (same_class d c) (same_class d Class.Posted) refl refl))
    where
      by_class : (d : Class) (same posted : Bool) → same_class d c ≡ same → same_class d Class.Posted ≡ posted → Each (λ x. x.number ≤ e.number → passes c d ≡ true) (g d)
      by_class d true posted is p =
          let P : Class → Type 0 = λ k. Each (λ x. x.number ≤ e.number → passes c d ≡ true) (g k) in
          subst P (same_class-true d c is) (each_weaker (λ x. e.number < x.number) (λ x. x.number ≤ e.number → passes c d ≡ true) (λ x l le. absurd (omega arith)) (g c) (rising_rest f g next c e s h))
      by_class d false true other p =
          let at : Class.Posted ≡ d = same_class-true d Class.Posted p in
          let R : Class → Type 0 = λ k. same_class k c ≡ false in
          let not_c : same_class Class.Posted c ≡ false = subst R (sym at) other in
          let above = posted_above f next next (f Class.Posted) e refl (s.rising Class.Posted) (first_apart f g next c e s h Class.Posted not_c) may in
          let S : List (Entry T) → Type 0 = λ xs. Each (λ x. e.number < x.number) xs in
          let T2 : Class → Type 0 = λ k. Each (λ x. x.number ≤ e.number → passes c d ≡ true) (g k) in
          subst T2 at (each_weaker (λ x. e.number < x.number) (λ x. x.number ≤ e.number → passes c d ≡ true) (λ x l le. absurd (omega arith)) (g Class.Posted) (subst S (h.others Class.Posted not_c) above))
      by_class d false false other p = each_all (λ x. x.number ≤ e.number → passes c d ≡ true) (λ x le. passes_unless c d other p) (g d)

  -- none of a class waits
  pub none_leaves : (f : Class → List (Entry T)) (c : Class) → f c ≡ [] → taken_of c (waiting_of f) ≡ None
  none_leaves f c is = none_waits c (arrivals f) (each-arrivals (λ y. same_class c y.1.0 ≡ false) f (λ d. by_class d (same_class c d) refl))
    where
      by_class : (d : Class) (same : Bool) → same_class c d ≡ same → Each (λ x. same_class c d ≡ false) (f d)
      by_class d true same = let P : Class → Type 0 = λ k. f k ≡ [] in subst (Each (λ x. same_class c d ≡ false)) (sym (subst P (sym (same_class-true c d same)) is)) tt
      by_class d false other = each_all (λ x. same_class c d ≡ false) (λ x. other) (f d)

  -- an older posted one waits
  posted_stops : (f : Class → List (Entry T)) (next : ℕ) (c : Class) (x p : Entry T) (xs ps : List (Entry T)) → AreNumbered (numbers_of f) next → f c ≡ x ∷ xs → f Class.Posted ≡ p ∷ ps → p.number < x.number → same_class c Class.Posted ≡ false
      → taken_of c (waiting_of f) ≡ None
  posted_stops f next c x p xs ps s is posted less other =
      ap (λ ys. taken_of c (items ys)) (arrivals-Fronts f g next Class.Posted p s fronts)
      ∙ stays_by_number c (tagged Class.Posted p) (arrivals g) other (passes_posted c) (each-arrivals (λ y. y.0 ≤ p.number → same_class c y.1.0 ≡ false) g (λ d. by_class d (same_class d c) refl))
    where
      g : Class → List (Entry T)
      g d = if same_class d Class.Posted then ps else f d

      fronts : Fronts f g Class.Posted p
      fronts = record { own = posted; others = λ d not_posted. ap (λ b. if b then ps else f d) (sym not_posted) }

      later : Each (λ y. y.number ≤ p.number → same_class c c ≡ false) (f c)
      later =
          let rising : Rising (x.number ∷ map (λ y. y.number) xs) = subst Rising (ap (map (λ y. y.number)) is) (s.rising c) in
          let P : List (Entry T) → Type 0 = Each (λ y. y.number ≤ p.number → same_class c c ≡ false) in
          subst P (sym is) (λ le. absurd (omega arith), each_weaker (λ y. x.number < y.number) (λ y. y.number ≤ p.number → same_class c c ≡ false) (λ y l le. absurd (omega arith)) xs (each-from_map (λ y. x.number < y) (λ y. y.number) xs rising.0))

      by_class : (d : Class) (same : Bool) → same_class d c ≡ same → Each (λ y. y.number ≤ p.number → same_class c d ≡ false) (g d)
      by_class d true same =
          let P : Class → Type 0 = λ k. Each (λ y. y.number ≤ p.number → same_class c k ≡ false) (g k) in
          let Q : List (Entry T) → Type 0 = Each (λ y. y.number ≤ p.number → same_class c c ≡ false) in
          subst P (same_class-true d c same) (subst Q (ap (λ b. if b then ps else f c) (sym other)) later)
      by_class d false not_c = each_all (λ y. y.number ≤ p.number → same_class c d ≡ false) (λ y le. other_way d c not_c) (g d)

  pub eligible_stays : (f : Class → List (Entry T)) (next : ℕ) (c : Class) → AreNumbered (numbers_of f) next → may_leave (slice_get (f c) 0) (slice_get (f Class.Posted) 0) ≡ false → taken_of c (waiting_of f) ≡ None
  eligible_stays f next c s stays = by_fronts (f c) (f Class.Posted) refl refl stays
    where
      by_posted : (x p : Entry T) (xs ps : List (Entry T)) → f c ≡ x ∷ xs → f Class.Posted ≡ p ∷ ps → p.number < x.number → (same : Bool) → same_class c Class.Posted ≡ same → taken_of c (waiting_of f) ≡ None
      by_posted x p xs ps is posted less true same =
          let one : Class.Posted ≡ c = same_class-true c Class.Posted same in
          let both : p ∷ ps ≡ x ∷ xs = sym posted ∙ (ap f one ∙ is) in
          let entry : p ≡ x = cc in
          let number = ap (λ e. e.number) entry in
          absurd (omega arith)
      by_posted x p xs ps is posted less false other = posted_stops f next c x p xs ps s is posted less other

      by_fronts : (xs ps : List (Entry T)) → f c ≡ xs → f Class.Posted ≡ ps → may_leave (slice_get xs 0) (slice_get ps 0) ≡ false → taken_of c (waiting_of f) ≡ None
      by_fronts [] ps is posted no_one = none_leaves f c is
      by_fronts (x ∷ xs) [] is posted no_one = cc
      by_fronts (x ∷ xs) (p ∷ ps) is posted no_one =
          let less : p.number < x.number = elim (leb_tells x.number p.number) [ inl within ↦ (let bad = within.0 in cc) | inr beyond ↦ beyond.1 ] in
          by_posted x p xs ps is posted less (same_class c Class.Posted) refl
