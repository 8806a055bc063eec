-- What the calls of a queue answer, from what its three queues have in front.
use Rattle.std.proofs.Common.{◌≡◌, ℕ, ◌<◌, ◌≤◌, Bool, true, false, List, [], ◌∷◌, Option, Some, None, drop, length, refl, sym, ap, ◌∙◌, subst, slice_get, arith, nat_eq, IsTrue, ◌↔◌, eqb-true, eq-eqb, get_or}
use Rattle.std.specs.Prelude.{option_map, if◌then◌else◌, insert, IsSome}
use Rattle.std.proofs.lemmas.List.{length-map}
use Rattle.ordering.specs.Ordering.{Class, same_class}
use Rattle.ordering.proofs.Classes.{same_class-true, same_class_same}
use Rattle.port_queue.specs.Arrivals.{Entry, Gap, arrivals, waiting_of, queue_of, numbers_of, may_leave, place_of, AreNumbered, AreClassQueues}
use Rattle.port_queue.specs.Queue.{taken_of, head_of, restored, restored_at}
use Rattle.port_queue.proofs.Taking.{Fronts, eligible_leaves, eligible_stays, restores}
use Rattle.port_queue.proofs.Keeping.{kept_sound, kept_back}

gap_room : (numbers : List ℕ) (n most : ℕ) (b : Bool) → b ≡ true → length (if b then n ∷ numbers else numbers) ≤ most → length numbers < most
gap_room numbers n most true e h = omega arith
gap_room numbers n most false e h = cc

-- a test of a count
pub full_tells : (n k most : ℕ) → n ≡ k → IsTrue (nat_eq n most) ↔ (k ≡ most)
full_tells n k most e = (λ t. (let is = eqb-true n most t in omega arith), λ h. (let is : n ≡ most = omega arith in eq-eqb n most is))

module _ {T : Type 0} where
  pub first_of : (xs : List (Entry T)) (e : Entry T) → slice_get xs 0 ≡ Some e → xs ≡ e ∷ drop 1 xs
  first_of [] e is = cc
  first_of (x ∷ xs) e is = (let same : x ≡ e = cc in ap (λ y. y ∷ xs) same)

  pub front_of : (xs : List (Entry T)) (e : Entry T) → 0 < length xs → e ≡ get_or xs 0 e → slice_get xs 0 ≡ Some e
  front_of [] e some is = absurd (omega arith)
  front_of (x ∷ xs) e some is = ap (λ y. Some y) (sym is)

  pub taken : (f g : Class → List (Entry T)) (next : ℕ) (c : Class) (e : Entry T) (answer : Bool) → AreNumbered (numbers_of f) next → Fronts f g c e → answer ≡ may_leave (slice_get (f c) 0) (slice_get (f Class.Posted) 0) → answer ≡ true
      → taken_of c (waiting_of f) ≡ Some ((c, e.item), waiting_of g)
  taken f g next c e answer s h is yes' =
      eligible_leaves f g next c e s h (ap (λ xs. may_leave (slice_get xs 0) (slice_get (f Class.Posted) 0)) (sym h.own) ∙ (sym is ∙ yes'))

  pub none_taken : (f : Class → List (Entry T)) (next : ℕ) (c : Class) (answer : Bool) → AreNumbered (numbers_of f) next → answer ≡ may_leave (slice_get (f c) 0) (slice_get (f Class.Posted) 0) → answer ≡ false → taken_of c (waiting_of f) ≡ None
  none_taken f next c answer s is no' = eligible_stays f next c s (sym is ∙ no')

  rest_of : (Class → List (Entry T)) → Class → Class → List (Entry T)
  rest_of f c d = if same_class d c then drop 1 (f d) else f d

  fronts_rest : (f : Class → List (Entry T)) (c : Class) (e : Entry T) → slice_get (f c) 0 ≡ Some e → Fronts f (rest_of f c) c e
  unfolding rest_of
  fronts_rest f c e is = record {
    own = first_of (f c) e is ∙ ap (λ xs. e ∷ xs) (sym (ap (λ b. if b then drop 1 (f c) else f c) (same_class_same c)));
    others = λ d other. sym (ap (λ b. if b then drop 1 (f d) else f d) other);
  }

  pub head_found : (f : Class → List (Entry T)) (next : ℕ) (c : Class) (e : Entry T) (answer : Bool) → AreNumbered (numbers_of f) next → answer ≡ may_leave (slice_get (f c) 0) (slice_get (f Class.Posted) 0) → answer ≡ true → slice_get (f c) 0 ≡ Some e
      → Some e.item ≡ head_of c (waiting_of f)
  head_found f next c e answer s is yes' front = sym (ap (option_map (λ r. r.0.1)) (taken f (rest_of f c) next c e answer s (fronts_rest f c e front) is yes'))

  pub head_none : (f : Class → List (Entry T)) (next : ℕ) (c : Class) (answer : Bool) → AreNumbered (numbers_of f) next → answer ≡ may_leave (slice_get (f c) 0) (slice_get (f Class.Posted) 0) → answer ≡ false → None ≡ head_of c (waiting_of f)
  head_none f next c answer s is no' = sym (ap (option_map (λ r. r.0.1)) (none_taken f next c answer s is no'))

  -- a front that is none may not leave
  pub not_without_front : (f : Class → List (Entry T)) (c : Class) (answer : Bool) → answer ≡ may_leave (slice_get (f c) 0) (slice_get (f Class.Posted) 0) → answer ≡ true → slice_get (f c) 0 ≡ None → ⊥
  not_without_front f c answer is yes' none =
      let never : answer ≡ false = is ∙ ap (λ o. may_leave o (slice_get (f Class.Posted) 0)) none in
      cc

  -- an item can be put back only to the class of the gap
  class_is : (gap : Gap) (n : ℕ) (c : Class) (item : T) (ws : List (Class × T)) (b : Bool) → same_class gap.class c ≡ b → IsSome (restored_at (Some (gap.class, n)) c item ws) → same_class gap.class c ≡ true
  class_is gap n c item ws true same some = same
  class_is gap n c item ws false other some =
      let found : Option (List (Class × T)) = Some (insert ws n (c, item)) in
      let none : restored_at (Some (gap.class, n)) c item ws ≡ None = ap (λ b. if b then found else None) other in
      let never : IsSome {T = List (Class × T)} None = subst IsSome none some in
      cc

  pub gap_class : (g : Class → List (Entry T)) (gap : Gap) (c : Class) (item : T) → IsSome (restored (queue_of g (Some gap)) c item) → c ≡ gap.class
  gap_class g gap c item some = same_class-true gap.class c (class_is gap (place_of gap.number (arrivals g)) c item (waiting_of g) (same_class gap.class c) refl some)

  kept_named : (cap : ℕ) (g : Class → List (Entry T)) (next : ℕ) (gap : Option Gap) (at : Gap) (c : Class) → AreClassQueues cap g next gap → gap ≡ Some at → c ≡ at.class → AreClassQueues cap g next (Some (record { class = c; number = at.number }))
  kept_named cap g next gap at c k is same = subst (AreClassQueues cap g next) (is ∙ ap (λ x. Some (record { class = x; number = at.number })) (sym same)) k

  -- an item put back: f is what is kept then, and waits as the last call found it
  pub put_back_kept : (cap : ℕ) (f g : Class → List (Entry T)) (next : ℕ) (gap : Option Gap) (at : Gap) (c : Class) (item : T) → AreClassQueues cap g next gap → gap ≡ Some at → IsSome (restored (queue_of g gap) c item) → Fronts f g c (record { number = at.number; item = item }) → AreClassQueues cap f next None
  put_back_kept cap f g next gap at c item k is some h =
      let same = gap_class g at c item (let P : Option Gap → Type 0 = λ x. IsSome (restored (queue_of g x) c item) in subst P is some) in
      kept_back cap f g next c (record { number = at.number; item = item }) (kept_named cap g next gap at c k is same) h

  pub put_back_waiting : (cap : ℕ) (f g : Class → List (Entry T)) (next : ℕ) (gap : Option Gap) (at : Gap) (c : Class) (item : T) → AreClassQueues cap g next gap → gap ≡ Some at → IsSome (restored (queue_of g gap) c item) → Fronts f g c (record { number = at.number; item = item })
      → restored (queue_of g gap) c item ≡ Some (waiting_of f)
  put_back_waiting cap f g next gap at c item k is some h =
      let same = gap_class g at c item (let P : Option Gap → Type 0 = λ x. IsSome (restored (queue_of g x) c item) in subst P is some) in
      ap (λ x. restored (queue_of g x) c item) (is ∙ ap (λ x. Some (record { class = x; number = at.number })) (sym same))
      ∙ restores f g next c (record { number = at.number; item = item }) (kept_sound cap f next None (put_back_kept cap f g next gap at c item k is some h)) h

  -- there is a place for it
  pub put_back_room : (cap : ℕ) (g : Class → List (Entry T)) (next : ℕ) (gap : Option Gap) (at : Gap) (c : Class) (item : T) → AreClassQueues cap g next gap → gap ≡ Some at → IsSome (restored (queue_of g gap) c item) → length (g c) < cap
  put_back_room cap g next gap at c item k is some =
      let same = gap_class g at c item (let P : Option Gap → Type 0 = λ x. IsSome (restored (queue_of g x) c item) in subst P is some) in
      let room = gap_room (numbers_of g c) at.number cap (same_class c c) (same_class_same c) ((kept_named cap g next gap at c k is same).fits c) in
      let mapped = length-map (g c) (λ e. e.number) in
      omega arith
