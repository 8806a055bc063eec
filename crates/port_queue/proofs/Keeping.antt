-- What each step keeps of three queues.
use Rattle.std.proofs.Common.{◌≡◌, ◌≢◌, ◌^◌, ℕ, ◌+◌, ◌<◌, ◌≤◌, Bool, true, false, List, [], ◌∷◌, ◌++◌, Option, Some, None, length, length-append, refl, sym, ap, ◌∙◌, subst, arith}
use Rattle.std.specs.Prelude.{map, if◌then◌else◌}
use Rattle.std.proofs.lemmas.List.{map-append, length-map}
use Rattle.ordering.specs.Ordering.{Class, same_class}
use Rattle.ordering.proofs.Classes.{same_class-true}
use Rattle.port_queue.specs.Arrivals.{Entry, Gap, Each, tagged, arrivals, waiting_of, numbers_of, with_gap, Rising, AreNumbered, AreClassQueues}
use Rattle.port_queue.proofs.Merging.{each-from_map}
use Rattle.port_queue.proofs.Arriving.{added, arrivals-cong, arrivals-added}
use Rattle.port_queue.proofs.Numbering.{AreNumbered-cong, AreNumbered-filled, AreNumbered-pushed}
use Rattle.port_queue.proofs.Taking.{Fronts, Adds, numbers-fronts, adds_at}

longer_at : (b : Bool) (n : ℕ) (xs : List ℕ) → length xs ≤ length (if b then n ∷ xs else xs)
longer_at true n xs = omega arith
longer_at false n xs = omega arith

pub length-with_gap : (gap : Option Gap) (numbers : Class → List ℕ) (d : Class) → length (numbers d) ≤ length (with_gap gap numbers d)
length-with_gap None numbers d = omega arith
length-with_gap (Some g) numbers d = longer_at (same_class d g.class) g.number (numbers d)

module _ {T : Type 0} where
  pub kept_sound : (cap : ℕ) (f : Class → List (Entry T)) (next : ℕ) (gap : Option Gap) → AreClassQueues cap f next gap → AreNumbered (numbers_of f) next
  kept_sound cap f next gap k = AreNumbered-filled gap (numbers_of f) next k.sound

  pub kept_length : (cap : ℕ) (f : Class → List (Entry T)) (next : ℕ) (gap : Option Gap) → AreClassQueues cap f next gap → (d : Class) → length (f d) ≤ cap
  kept_length cap f next gap k d =
      let all = k.fits d in
      let some = length-with_gap gap (numbers_of f) d in
      let mapped = length-map (f d) (λ e. e.number) in
      omega arith

  -- the gap is given up
  pub kept_filled : (cap : ℕ) (f : Class → List (Entry T)) (next : ℕ) (gap : Option Gap) → AreClassQueues cap f next gap → AreClassQueues cap f next None
  kept_filled cap f next gap k = record {
    sound = kept_sound cap f next gap k;
    fits = λ d. (let all = k.fits d in let some = length-with_gap gap (numbers_of f) d in omega arith);
    small = k.small;
  }

  -- an entry taken from the front leaves a gap
  pub kept_taken : (cap : ℕ) (f g : Class → List (Entry T)) (next : ℕ) (gap : Option Gap) (c : Class) (e : Entry T) → AreClassQueues cap f next gap → Fronts f g c e → AreClassQueues cap g next (Some (record { class = c; number = e.number }))
  kept_taken cap f g next gap c e k h = record {
    sound = AreNumbered-cong (numbers_of f) (with_gap (Some (record { class = c; number = e.number })) (numbers_of g)) next (λ d. sym (numbers-fronts f g c e h d)) (kept_sound cap f next gap k);
    fits = λ d.
        let all = k.fits d in
        let some = length-with_gap gap (numbers_of f) d in
        let same = ap length (numbers-fronts f g c e h d) in
        omega arith;
    small = k.small;
  }

  -- an entry put into the gap closes it
  pub kept_back : (cap : ℕ) (f g : Class → List (Entry T)) (next : ℕ) (c : Class) (e : Entry T) → AreClassQueues cap g next (Some (record { class = c; number = e.number })) → Fronts f g c e → AreClassQueues cap f next None
  kept_back cap f g next c e k h = record {
    sound = AreNumbered-cong (with_gap (Some (record { class = c; number = e.number })) (numbers_of g)) (numbers_of f) next (numbers-fronts f g c e h) k.sound;
    fits = λ d.
        let all = k.fits d in
        let same = ap length (numbers-fronts f g c e h d) in
        omega arith;
    small = k.small;
  }

  numbers_added : (f g : Class → List (Entry T)) (c : Class) (e : Entry T) → Adds f g c e → (d : Class) (b : Bool) → same_class d c ≡ b → (if b then numbers_of f d ++ e.number ∷ [] else numbers_of f d) ≡ numbers_of g d
  numbers_added f g c e h d true same = sym (ap (map (λ x. x.number)) (adds_at f g c e h d true same) ∙ map-append (λ x. x.number) (f d) (e ∷ []))
  numbers_added f g c e h d false other = ap (map (λ x. x.number)) (sym (h.others d other))

  length_added : (f g : Class → List (Entry T)) (c : Class) (e : Entry T) (cap : ℕ) → Adds f g c e → length (f c) < cap → (d : Class) → length (f d) ≤ cap → (b : Bool) → same_class d c ≡ b → length (g d) ≤ cap
  length_added f g c e cap h room d fits true same =
      let at : same_class d c ≡ true = same in
      let longer = ap length (h.own) ∙ length-append (f c) (e ∷ []) in
      let own : length (g c) ≤ cap = omega arith in
      let P : Class → Type 0 = λ x. length (g x) ≤ cap in
      subst P (same_class-true d c same) own
  length_added f g c e cap h room d fits false other =
      let same = ap length (h.others d other) in
      omega arith

  -- a new entry has the next number
  pub kept_added : (cap : ℕ) (f g : Class → List (Entry T)) (next : ℕ) (gap : Option Gap) (c : Class) (e : Entry T) → AreClassQueues cap f next gap → Adds f g c e → e.number ≡ next → length (f c) < cap → AreClassQueues cap g (next + 1) None
  kept_added cap f g next gap c e k h number room = record {
    sound = AreNumbered-cong (λ d. if same_class d c then numbers_of f d ++ next ∷ [] else numbers_of f d) (numbers_of g) (next + 1)
        (λ d. ap (λ n. if same_class d c then numbers_of f d ++ n ∷ [] else numbers_of f d) (sym number) ∙ numbers_added f g c e h d (same_class d c) refl)
        (AreNumbered-pushed (numbers_of f) c next (kept_sound cap f next gap k));
    fits = λ d.
        let mapped = length-map (g d) (λ x. x.number) in
        let within = length_added f g c e cap h room d (kept_length cap f next gap k d) (same_class d c) refl in
        omega arith;
    small = k.small;
  }

  -- and is the newest
  pub waiting-added : (f g : Class → List (Entry T)) (next : ℕ) (c : Class) (e : Entry T) → AreNumbered (numbers_of f) next → Adds f g c e → e.number ≡ next → waiting_of g ≡ waiting_of f ++ (c, e.item) ∷ []
  waiting-added f g next c e s h number =
      ap (map (λ y. y.1)) (arrivals-cong g (added f c e) (λ d. adds_at f g c e h d (same_class d c) refl)
      ∙ arrivals-added f c e (λ d. let P : ℕ → Type 0 = λ n. Each (λ x. x.number < n) (f d) in subst P (sym number) (each-from_map (λ y. y < next) (λ x. x.number) (f d) (s.below d))))
      ∙ map-append (λ y. y.1) (arrivals f) (tagged c e ∷ [])

  -- nothing waits yet
  pub kept_empty : (cap : ℕ) (f : Class → List (Entry T)) (next : ℕ) → cap < 2 ^ 62 → ((d : Class) → f d ≡ []) → AreClassQueues cap f next None
  kept_empty cap f next small empty =
      let is : (d : Class) → numbers_of f d ≡ [] = λ d. ap (map (λ x. x.number)) (empty d) in
      record {
        sound = record {
          rising = λ d. subst Rising (sym (is d)) tt;
          apart = λ d e other. subst (Each (λ x. Each (λ y. y ≢ x) (numbers_of f e))) (sym (is d)) tt;
          below = λ d. subst (Each (λ x. x < next)) (sym (is d)) tt;
        };
        fits = λ d. (let none = ap length (is d) in omega arith);
        small = small;
      }
