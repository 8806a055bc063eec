-- What each step keeps of queues with reserved places.
use Rattle.std.proofs.Common.{◌≡◌, ◌^◌, ℕ, ◌+◌, ◌<◌, ◌≤◌, Bool, true, false, List, [], ◌∷◌, ◌++◌, Option, Some, None, length, length-append, refl, sym, ap, ◌∙◌, subst, arith}
use Rattle.std.specs.Prelude.{map, if◌then◌else◌}
use Rattle.std.proofs.lemmas.List.{length-map}
use Rattle.std.specs.VecDeque.{deque_len, deque_capacity}
use Rattle.ordering.specs.Ordering.{Class, same_class}
use Rattle.ordering.proofs.Classes.{same_class-true}
use Rattle.port_queue.specs.Arrivals.{Entry, Gap, numbers_of, with_gap, AreNumbered, AreClassQueues}
use Rattle.port_queue.specs.PerClass.{PerClass, at_class, with_class}
use Rattle.port_queue.specs.Outgoing.{VecDeque, Global, total, entries_of, IsRoomy, IsReserved}
use Rattle.port_queue.proofs.Numbering.{AreNumbered-cong}
use Rattle.port_queue.proofs.Taking.{Fronts, Adds, at_class-own, at_class-other, numbers-fronts}
use Rattle.port_queue.proofs.Keeping.{length-with_gap, kept_sound, kept_taken, kept_back, kept_added}

module _ {Q : Type 0} where
  pub with_class_all : (P : Q → Type 0) (l : PerClass Q) (c : Class) (q : Q) → P q → ((d : Class) → P (at_class l d)) → (d : Class) → P (at_class (with_class l c q) d)
  with_class_all P l Class.Posted q own others Class.Posted = own
  with_class_all P l Class.Posted q own others Class.NonPosted = others Class.NonPosted
  with_class_all P l Class.Posted q own others Class.Completion = others Class.Completion
  with_class_all P l Class.NonPosted q own others Class.Posted = others Class.Posted
  with_class_all P l Class.NonPosted q own others Class.NonPosted = own
  with_class_all P l Class.NonPosted q own others Class.Completion = others Class.Completion
  with_class_all P l Class.Completion q own others Class.Posted = others Class.Posted
  with_class_all P l Class.Completion q own others Class.NonPosted = others Class.NonPosted
  with_class_all P l Class.Completion q own others Class.Completion = own

total-more : (puts : PerClass ℕ) (c : Class) → total puts + 1 ≡ total (with_class puts c (at_class puts c + 1))
total-more puts Class.Posted = omega arith
total-more puts Class.NonPosted = omega arith
total-more puts Class.Completion = omega arith

with_gap-cong : (gap : Option Gap) (f g : Class → List ℕ) → ((d : Class) → f d ≡ g d) → (d : Class) → with_gap gap f d ≡ with_gap gap g d
with_gap-cong None f g h d = h d
with_gap-cong (Some at) f g h d = ap (λ xs. if same_class d at.class then at.number ∷ xs else xs) (h d)

module _ {T : Type 0} where
  pub fronts_taken : (l : PerClass (VecDeque (Entry T) Global)) (c : Class) (q : VecDeque (Entry T) Global) (e : Entry T) → (at_class l c).items ≡ e ∷ q.items → Fronts (entries_of l) (entries_of (with_class l c q)) c e
  fronts_taken l c q e is = record {
    own = is ∙ ap (λ (x : VecDeque (Entry T) Global). e ∷ x.items) (sym (at_class-own l c q));
    others = λ d other. ap (λ (x : VecDeque (Entry T) Global). x.items) (sym (at_class-other l c d q other));
  }

  pub fronts_back : (l : PerClass (VecDeque (Entry T) Global)) (c : Class) (q : VecDeque (Entry T) Global) (e : Entry T) → q.items ≡ e ∷ (at_class l c).items → Fronts (entries_of (with_class l c q)) (entries_of l) c e
  fronts_back l c q e is = record {
    own = ap (λ (x : VecDeque (Entry T) Global). x.items) (at_class-own l c q) ∙ is;
    others = λ d other. ap (λ (x : VecDeque (Entry T) Global). x.items) (at_class-other l c d q other);
  }

  pub adds_put : (l : PerClass (VecDeque (Entry T) Global)) (c : Class) (q : VecDeque (Entry T) Global) (e : Entry T) → q.items ≡ (at_class l c).items ++ e ∷ [] → Adds (entries_of l) (entries_of (with_class l c q)) c e
  adds_put l c q e is = record {
    own = ap (λ (x : VecDeque (Entry T) Global). x.items) (at_class-own l c q) ∙ is;
    others = λ d other. ap (λ (x : VecDeque (Entry T) Global). x.items) (at_class-other l c d q other);
  }

  pub reserved_sound : (l : PerClass (VecDeque (Entry T) Global)) (puts : PerClass ℕ) (places : ℕ) (gap : Option Gap) → IsReserved l puts places gap → AreNumbered (numbers_of (entries_of l)) (total puts)
  reserved_sound l puts places gap r = kept_sound places (entries_of l) (total puts) gap r.kept

  pub reserved_length : (l : PerClass (VecDeque (Entry T) Global)) (puts : PerClass ℕ) (places : ℕ) (gap : Option Gap) → IsReserved l puts places gap → (d : Class) → deque_len (at_class l d) ≤ at_class puts d
  reserved_length l puts places gap r d =
      let all = r.counted d in
      let some = length-with_gap gap (numbers_of (entries_of l)) d in
      let mapped = length-map (entries_of l d) (λ e. e.number) in
      let long = (r.roomy d).long in
      omega arith

  pub reserved_len : (l : PerClass (VecDeque (Entry T) Global)) (puts : PerClass ℕ) (places : ℕ) (gap : Option Gap) → IsReserved l puts places gap → (d : Class) → deque_len (at_class l d) ≤ places
  reserved_len l puts places gap r d =
      let some = reserved_length l puts places gap r d in
      let within = r.within d in
      omega arith

  pub reserved_taken : (l : PerClass (VecDeque (Entry T) Global)) (puts : PerClass ℕ) (places : ℕ) (gap : Option Gap) (c : Class) (q : VecDeque (Entry T) Global) (e : Entry T) → IsReserved l puts places gap → (at_class l c).items ≡ e ∷ q.items
      → deque_capacity q ≡ deque_capacity (at_class l c) → deque_len q + 1 ≡ deque_len (at_class l c) → IsReserved (with_class l c q) puts places (Some (record { class = c; number = e.number }))
  reserved_taken l puts places gap c q e r is capacity len =
      let h = fronts_taken l c q e is in
      let before = r.roomy c in
      let reserved = before.reserved in
      let long = before.long in
      let items = ap length is in
      record {
        kept = kept_taken places (entries_of l) (entries_of (with_class l c q)) (total puts) gap c e r.kept h;
        counted = λ d.
            let all = r.counted d in
            let some = length-with_gap gap (numbers_of (entries_of l)) d in
            let same = ap length (numbers-fronts (entries_of l) (entries_of (with_class l c q)) c e h d) in
            omega arith;
        within = r.within;
        roomy = with_class_all (IsRoomy places) l c q (record { reserved = omega arith; long = omega arith }) r.roomy;
      }

  pub reserved_back : (l : PerClass (VecDeque (Entry T) Global)) (puts : PerClass ℕ) (places : ℕ) (c : Class) (q : VecDeque (Entry T) Global) (e : Entry T) → IsReserved l puts places (Some (record { class = c; number = e.number })) → q.items ≡ e ∷ (at_class l c).items
      → deque_capacity q ≡ deque_capacity (at_class l c) → deque_len q ≡ deque_len (at_class l c) + 1 → IsReserved (with_class l c q) puts places None
  reserved_back l puts places c q e r is capacity len =
      let h = fronts_back l c q e is in
      let before = r.roomy c in
      let reserved = before.reserved in
      let long = before.long in
      let items = ap length is in
      record {
        kept = kept_back places (entries_of (with_class l c q)) (entries_of l) (total puts) c e r.kept h;
        counted = λ d.
            let all = r.counted d in
            let same = ap length (numbers-fronts (entries_of (with_class l c q)) (entries_of l) c e h d) in
            omega arith;
        within = r.within;
        roomy = with_class_all (IsRoomy places) l c q (record { reserved = omega arith; long = omega arith }) r.roomy;
      }

  puts_more : (l : PerClass (VecDeque (Entry T) Global)) (puts : PerClass ℕ) (c : Class) (q : VecDeque (Entry T) Global) (e : Entry T) → q.items ≡ (at_class l c).items ++ e ∷ [] → ((d : Class) → length (entries_of l d) ≤ at_class puts d)
      → (d : Class) (b : Bool) → same_class d c ≡ b → length (entries_of (with_class l c q) d) ≤ at_class (with_class puts c (at_class puts c + 1)) d
  puts_more l puts c q e is fits d true same =
      let P : Class → Type 0 = λ k. length (entries_of (with_class l c q) k) ≤ at_class (with_class puts c (at_class puts c + 1)) k in
      let items = ap length (ap (λ (x : VecDeque (Entry T) Global). x.items) (at_class-own l c q) ∙ is) ∙ length-append (at_class l c).items (e ∷ []) in
      let counted = at_class-own puts c (at_class puts c + 1) in
      let fit = fits c in
      subst P (same_class-true d c same) (omega arith)
  puts_more l puts c q e is fits d false other =
      let items = ap length (ap (λ (x : VecDeque (Entry T) Global). x.items) (at_class-other l c d q other)) in
      let counted = at_class-other puts c d (at_class puts c + 1) other in
      let fit = fits d in
      omega arith

  pub reserved_added : (l : PerClass (VecDeque (Entry T) Global)) (puts : PerClass ℕ) (places : ℕ) (gap : Option Gap) (c : Class) (q : VecDeque (Entry T) Global) (e : Entry T) → IsReserved l puts places gap → q.items ≡ (at_class l c).items ++ e ∷ [] → e.number ≡ total puts
      → deque_capacity q ≡ deque_capacity (at_class l c) → deque_len q ≡ deque_len (at_class l c) + 1 → at_class puts c < places → IsReserved (with_class l c q) (with_class puts c (at_class puts c + 1)) places None
  reserved_added l puts places gap c q e r is number capacity len room =
      let h = adds_put l c q e is in
      let before = r.roomy c in
      let reserved = before.reserved in
      let long = before.long in
      let items = ap length is ∙ length-append (at_class l c).items (e ∷ []) in
      let length_c = reserved_length l puts places gap r c in
      let room_c : length (entries_of l c) < places = omega arith in
      record {
        kept = subst (λ n. AreClassQueues places (entries_of (with_class l c q)) n None) (total-more puts c) (kept_added places (entries_of l) (entries_of (with_class l c q)) (total puts) gap c e r.kept h number room_c);
        counted = λ d.
            let mapped = length-map (entries_of (with_class l c q) d) (λ x. x.number) in
            let fit = puts_more l puts c q e is (λ k. (let some = reserved_length l puts places gap r k in let same = (r.roomy k).long in omega arith)) d (same_class d c) refl in
            omega arith;
        within = with_class_all (λ n. n ≤ places) puts c (at_class puts c + 1) (omega arith) r.within;
        roomy = with_class_all (IsRoomy places) l c q (record { reserved = omega arith; long = omega arith }) r.roomy;
      }

  -- the same entries with more room
  pub reserved_same : (l m : PerClass (VecDeque (Entry T) Global)) (puts : PerClass ℕ) (places more : ℕ) (gap : Option Gap) → IsReserved l puts places gap → ((d : Class) → (at_class m d).items ≡ (at_class l d).items) → places ≤ more → more < 2 ^ 62 → ((d : Class) → IsRoomy more (at_class m d))
      → IsReserved m puts more gap
  reserved_same l m puts places more gap r same larger small roomy =
      let numbers : (d : Class) → with_gap gap (numbers_of (entries_of l)) d ≡ with_gap gap (numbers_of (entries_of m)) d = with_gap-cong gap (numbers_of (entries_of l)) (numbers_of (entries_of m)) (λ d. ap (map (λ x. x.number)) (sym (same d))) in
      record {
        kept = record {
          sound = AreNumbered-cong (with_gap gap (numbers_of (entries_of l))) (with_gap gap (numbers_of (entries_of m))) (total puts) numbers r.kept.sound;
          fits = λ d. (let fit = r.kept.fits d in let is = ap length (numbers d) in omega arith);
          small = small;
        };
        counted = λ d. (let fit = r.counted d in let is = ap length (numbers d) in omega arith);
        within = λ d. (let fit = r.within d in omega arith);
        roomy = roomy;
      }
