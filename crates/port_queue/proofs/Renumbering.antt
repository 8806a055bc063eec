-- Entries that are numbered anew, one after another.
use Rattle.std.proofs.Common.{◌≡◌, ◌≢◌, ◌^◌, ◌-◌, ℕ, ◌+◌, ◌<◌, ◌≤◌, Bool, true, false, List, [], ◌∷◌, ◌++◌, None, length, length-append, append_assoc, refl, sym, ap, ◌∙◌, subst, arith, slice_get, zero-add}
use Rattle.std.specs.Prelude.{map}
use Rattle.ordering.specs.Ordering.{Class, same_class}
use Rattle.ordering.proofs.Classes.{same_class-true, same_class_same}
use Rattle.port_queue.proofs.Numbering.{AreNumbered-cong}
use Rattle.port_queue.specs.Arrivals.{Entry, Each, arrivals, tagged, waiting_of, numbers_of, Rising, number_or_last_of, IsLeast, AreClassQueues, AreNumbered}
use Rattle.port_queue.specs.Queue.{count_of}
use Rattle.port_queue.proofs.Merging.{each_weaker, each-from_map, insert-first}
use Rattle.port_queue.proofs.Arriving.{arrivals-cong, each-arrivals, count_of-waiting}
use Rattle.port_queue.proofs.Leaving.{items}
use Rattle.port_queue.proofs.Taking.{Fronts, Adds, arrivals-Fronts, rising_rest, first_apart}
use Rattle.port_queue.proofs.Keeping.{kept_length, kept_empty, kept_added, waiting-added}

-- fresh has numbers below the next, and waits before what is left of all
pub record Moves {T : Type 0} (cap next number : ℕ) (fresh left : Class → List (Entry T)) (all : List (Class × T)) : Type 0 where
  pub fresh_kept : AreClassQueues cap fresh number None
  pub left_kept : AreClassQueues cap left next None
  pub together : waiting_of fresh ++ waiting_of left ≡ all
  pub counted : number ≡ length (waiting_of fresh)
  pub within : (c : Class) → count_of c all ≤ cap

least_of : (k : Class → ℕ) (c d : Class) → IsLeast (k Class.Posted) (k Class.NonPosted) (k Class.Completion) c → k c ≤ k d
least_of k Class.Posted Class.Posted h = omega arith
least_of k Class.Posted Class.NonPosted h = h.0
least_of k Class.Posted Class.Completion h = h.1
least_of k Class.NonPosted Class.Posted h = h.0
least_of k Class.NonPosted Class.NonPosted h = omega arith
least_of k Class.NonPosted Class.Completion h = h.1
least_of k Class.Completion Class.Posted h = h.0
least_of k Class.Completion Class.NonPosted h = h.1
least_of k Class.Completion Class.Completion h = omega arith

-- the least by numbers that are equal to these
pub least_same : (k : Class → ℕ) (p n c : ℕ) (class : Class) → p ≡ k Class.Posted → n ≡ k Class.NonPosted → c ≡ k Class.Completion → IsLeast p n c class → IsLeast (k Class.Posted) (k Class.NonPosted) (k Class.Completion) class
least_same k p n c class is_p is_n is_c least =
    let P : ℕ → Type 0 = λ x. IsLeast x n c class in
    let Q : ℕ → Type 0 = λ x. IsLeast (k Class.Posted) x c class in
    let R : ℕ → Type 0 = λ x. IsLeast (k Class.Posted) (k Class.NonPosted) x class in
    subst R is_c (subst Q is_n (subst P is_p least))

module _ {T : Type 0} where
  above_least : (e : Entry T) (xs : List (Entry T)) → Rising (map (λ x. x.number) xs) → Each (λ x. x.number ≢ e.number) xs → e.number ≤ number_or_last_of (slice_get xs 0) → Each (λ x. e.number < x.number) xs
  above_least e [] rising apart low = tt
  above_least e (x ∷ xs) rising apart low =
      let differ = apart.0 in
      let less : e.number < x.number = omega arith in
      (less, each_weaker (λ y. x.number < y.number) (λ y. e.number < y.number) (λ y l. omega arith) xs (each-from_map (λ y. x.number < y) (λ y. y.number) xs rising.0))

  -- the oldest entry of all comes first
  pub oldest_first : (f g : Class → List (Entry T)) (next : ℕ) (c : Class) (e : Entry T) → AreNumbered (numbers_of f) next → Fronts f g c e
      → IsLeast (number_or_last_of (slice_get (f Class.Posted) 0)) (number_or_last_of (slice_get (f Class.NonPosted) 0)) (number_or_last_of (slice_get (f Class.Completion) 0)) c
      → waiting_of f ≡ (c, e.item) ∷ waiting_of g
  oldest_first f g next c e s h least =
      ap items (arrivals-Fronts f g next c e s h ∙ insert-first (tagged c e) (arrivals g) (each-arrivals (λ y. e.number < y.0) g (λ d. by_class d (same_class d c) refl)))
    where
      key : e.number ≡ number_or_last_of (slice_get (f c) 0)
      key = ap (λ xs. number_or_last_of (slice_get xs 0)) (sym h.own)

      by_class : (d : Class) (same : Bool) → same_class d c ≡ same → Each (λ x. e.number < x.number) (g d)
      by_class d true same = let P : Class → Type 0 = λ k. Each (λ x. e.number < x.number) (g k) in subst P (same_class-true d c same) (rising_rest f g next c e s h)
      by_class d false other =
          let low = least_of (λ k. number_or_last_of (slice_get (f k) 0)) c d least in
          let is = key in
          subst (Each (λ x. e.number < x.number)) (h.others d other) (above_least e (f d) (s.rising d) (first_apart f g next c e s h d other) (omega arith))

  no_first : (xs : List (Entry T)) (next : ℕ) → Each (λ x. x < next) (map (λ x. x.number) xs) → next < 2 ^ 64 → 2 ^ 64 - 1 ≤ number_or_last_of (slice_get xs 0) → xs ≡ []
  no_first [] next below bound low = refl
  no_first (x ∷ xs) next below bound low = (let less = below.0 in absurd (omega arith))

  pub waiting-none : (f : Class → List (Entry T)) → ((d : Class) → f d ≡ []) → waiting_of f ≡ []
  waiting-none f none = ap items (arrivals-cong f (λ d. []) none)

  -- where the oldest of all is none, nothing waits
  pub oldest_none : (f : Class → List (Entry T)) (next : ℕ) (c : Class) → AreNumbered (numbers_of f) next → next < 2 ^ 64 → slice_get (f c) 0 ≡ None
      → IsLeast (number_or_last_of (slice_get (f Class.Posted) 0)) (number_or_last_of (slice_get (f Class.NonPosted) 0)) (number_or_last_of (slice_get (f Class.Completion) 0)) c
      → waiting_of f ≡ []
  oldest_none f next c s bound none least = waiting-none f (λ d.
      let low = least_of (λ k. number_or_last_of (slice_get (f k) 0)) c d least in
      let is = ap number_or_last_of none in
      no_first (f d) next (s.below d) bound (omega arith))

  pub kept_cong : (cap : ℕ) (f g : Class → List (Entry T)) (next : ℕ) → ((d : Class) → f d ≡ g d) → AreClassQueues cap f next None → AreClassQueues cap g next None
  kept_cong cap f g next h k = record {
    sound = AreNumbered-cong (numbers_of f) (numbers_of g) next (λ d. ap (map (λ x. x.number)) (h d)) k.sound;
    fits = λ d. (let fit = k.fits d in let same = ap (λ xs. length (map (λ x. x.number) xs)) (h d) in omega arith);
    small = k.small;
  }

  length-counts : (ws : List (Class × T)) → length ws ≡ count_of Class.Posted ws + count_of Class.NonPosted ws + count_of Class.Completion ws
  length-counts [] = refl
  length-counts ((Class.Posted, x) ∷ ws) = (let rest = length-counts ws in omega arith)
  length-counts ((Class.NonPosted, x) ∷ ws) = (let rest = length-counts ws in omega arith)
  length-counts ((Class.Completion, x) ∷ ws) = (let rest = length-counts ws in omega arith)

  count_cons : (c : Class) (x : Class × T) (xs ys : List (Class × T)) (b : Bool) → same_class c x.0 ≡ b → count_of c (xs ++ ys) ≡ count_of c xs + count_of c ys → count_of c (x ∷ (xs ++ ys)) ≡ count_of c (x ∷ xs) + count_of c ys
  count_cons c x xs ys true e rest = rw e (omega arith)
  count_cons c x xs ys false e rest = rw e rest

  count_of-append : (c : Class) (xs ys : List (Class × T)) → count_of c (xs ++ ys) ≡ count_of c xs + count_of c ys
  count_of-append c [] ys = sym (zero-add (count_of c ys))
  count_of-append c (x ∷ xs) ys = count_cons c x xs ys (same_class c x.0) refl (count_of-append c xs ys)

  pub moves_start : (cap next : ℕ) (fresh left : Class → List (Entry T)) → AreClassQueues cap left next None → ((d : Class) → fresh d ≡ []) → Moves cap next 0 fresh left (waiting_of left)
  moves_start cap next fresh left k empty =
      let none = waiting-none fresh empty in
      record {
        fresh_kept = kept_empty cap fresh 0 k.small empty;
        left_kept = k;
        together = ap (λ ws. ws ++ waiting_of left) none;
        counted = sym (ap length none);
        within = λ c. (let is = count_of-waiting left c in let fit = kept_length cap left next None k c in omega arith);
      }

  -- there is a place for what has left, beside all others of its class
  pub moves_room : (cap next number : ℕ) (fresh left rest : Class → List (Entry T)) (all : List (Class × T)) (c : Class) (item : T) → Moves cap next number fresh left all → waiting_of left ≡ (c, item) ∷ waiting_of rest → length (rest c) + length (fresh c) < cap
  moves_room cap next number fresh left rest all c item m first =
      let total = ap (count_of c) (sym m.together ∙ ap (λ ws. waiting_of fresh ++ ws) first) in
      let parts = count_of-append c (waiting_of fresh) ((c, item) ∷ waiting_of rest) in
      let one : count_of c ((c, item) ∷ waiting_of rest) ≡ 1 + count_of c (waiting_of rest) = rw (same_class_same c) refl in
      let fit = m.within c in
      let is = count_of-waiting fresh c in
      let behind = count_of-waiting rest c in
      omega arith

  pub moves_bound : (cap next number : ℕ) (fresh left : Class → List (Entry T)) (all : List (Class × T)) → Moves cap next number fresh left all → number < 2 ^ 64 - 1
  moves_bound cap next number fresh left all m =
      let total = ap length (sym m.together) ∙ length-append (waiting_of fresh) (waiting_of left) in
      let counts = length-counts all in
      let posted = m.within Class.Posted in
      let non_posted = m.within Class.NonPosted in
      let completion = m.within Class.Completion in
      let is = m.counted in
      let small = m.fresh_kept.small in
      omega arith

  pub moves_more : (cap next number : ℕ) (fresh more left rest : Class → List (Entry T)) (all : List (Class × T)) (c : Class) (item : T) → Moves cap next number fresh left all → waiting_of left ≡ (c, item) ∷ waiting_of rest → AreClassQueues cap rest next None
      → Adds fresh more c (record { number = number; item = item }) → Moves cap next (number + 1) more rest all
  moves_more cap next number fresh more left rest all c item m first k adds =
      let longer : waiting_of more ≡ waiting_of fresh ++ (c, item) ∷ [] = waiting-added fresh more number c (record { number = number; item = item }) m.fresh_kept.sound adds refl in
      record {
        fresh_kept = kept_added cap fresh more number None c (record { number = number; item = item }) m.fresh_kept adds refl (let room = moves_room cap next number fresh left rest all c item m first in omega arith);
        left_kept = k;
        together = ap (λ ws. ws ++ waiting_of rest) longer ∙ (append_assoc (waiting_of fresh) ((c, item) ∷ []) (waiting_of rest) ∙ (ap (λ ws. waiting_of fresh ++ ws) (sym first) ∙ m.together));
        counted = (let size = ap length longer ∙ length-append (waiting_of fresh) ((c, item) ∷ []) in let is = m.counted in omega arith);
        within = m.within;
      }
