-- Class queues of which the first entries still have their old numbers, and the others have new ones.
use Rattle.std.proofs.Common.{◌≡◌, ℕ, suc, ◌+◌, ◌<◌, ◌≤◌, Bool, true, false, List, [], ◌∷◌, ◌++◌, None, take, drop, length, length-append, refl, sym, ap, ◌∙◌, subst, arith}
use Rattle.std.proofs.Math.Seq.{take-length, drop-length}
use Rattle.std.proofs.lemmas.List.{take-append-le, drop-append-le, take-append-drop, append-nil}
use Rattle.ordering.specs.Ordering.{Class, same_class}
use Rattle.ordering.proofs.Classes.{same_class-true}
use Rattle.port_queue.specs.Arrivals.{Entry, waiting_of, AreClassQueues}
use Rattle.port_queue.specs.PerClass.{PerClass, at_class, with_class}
use Rattle.port_queue.specs.Queue.{count_of}
use Rattle.port_queue.specs.Renumbering.{firsts_of, others_of}
use Rattle.port_queue.proofs.Arriving.{arrivals-cong, count_of-waiting}
use Rattle.port_queue.proofs.Leaving.{items}
use Rattle.port_queue.proofs.Taking.{Fronts, at_class-own, at_class-other}
use Rattle.port_queue.proofs.Renumbering.{Moves, kept_cong, moves_start, moves_room, moves_more}

-- one of three queues has lost its first, and one fewer of its class are left
module _ {X : Type 0} (l : PerClass (List X)) (n : PerClass ℕ) (c : Class) (x : X) (xs : List X) (k : ℕ) (is : at_class l c ≡ x ∷ xs) (count : at_class n c ≡ suc k) where
  own : (f : ℕ → List X → List X) → f (at_class (with_class n c k) c) (at_class (with_class l c xs) c) ≡ f k xs
  own f = ap (λ j. f j (at_class (with_class l c xs) c)) (at_class-own n c k) ∙ ap (f k) (at_class-own l c xs)

  other_same : (f : ℕ → List X → List X) (d : Class) → same_class d c ≡ false → f (at_class (with_class n c k) d) (at_class (with_class l c xs) d) ≡ f (at_class n d) (at_class l d)
  other_same f d other = ap (λ j. f j (at_class (with_class l c xs) d)) (at_class-other n c d k other) ∙ ap (f (at_class n d)) (at_class-other l c d xs other)

  pub firsts-own : firsts_of l n c ≡ x ∷ firsts_of (with_class l c xs) (with_class n c k) c
  firsts-own = ap (take (at_class n c)) is ∙ (ap (λ j. take j (x ∷ xs)) count ∙ ap (λ ys. x ∷ ys) (sym (own take)))

  pub firsts-other : (d : Class) → same_class d c ≡ false → firsts_of l n d ≡ firsts_of (with_class l c xs) (with_class n c k) d
  firsts-other d other = sym (other_same take d other)

  within_by : ((d : Class) → at_class n d ≤ length (at_class l d)) → (d : Class) (b : Bool) → same_class d c ≡ b → at_class (with_class n c k) d ≤ length (at_class (with_class l c xs) d)
  within_by h d true same =
      let P : Class → Type 0 = λ e. at_class (with_class n c k) e ≤ length (at_class (with_class l c xs) e) in
      let fit = h c in
      let size = ap length is in
      let count_new = at_class-own n c k in
      let size_new = ap length (at_class-own l c xs) in
      subst P (same_class-true d c same) (omega arith)
  within_by h d false other =
      let fit = h d in
      let count_new = at_class-other n c d k other in
      let size_new = ap length (at_class-other l c d xs other) in
      omega arith

  pub within-less : ((d : Class) → at_class n d ≤ length (at_class l d)) → (d : Class) → at_class (with_class n c k) d ≤ length (at_class (with_class l c xs) d)
  within-less h d = within_by h d (same_class d c) refl

-- one of three queues has got an entry more, behind its others
module _ {X : Type 0} (l : PerClass (List X)) (n : PerClass ℕ) (c : Class) (x : X) (xs : List X) (is : xs ≡ at_class l c ++ x ∷ []) (within : (d : Class) → at_class n d ≤ length (at_class l d)) where
  pushed-own : at_class (with_class l c xs) c ≡ at_class l c ++ x ∷ []
  pushed-own = at_class-own l c xs ∙ is

  firsts_by : (d : Class) (b : Bool) → same_class d c ≡ b → firsts_of (with_class l c xs) n d ≡ firsts_of l n d
  firsts_by d true same = let P : Class → Type 0 = λ e. firsts_of (with_class l c xs) n e ≡ firsts_of l n e in
      subst P (same_class-true d c same) (ap (take (at_class n c)) pushed-own ∙ take-append-le (at_class n c) (at_class l c) (x ∷ []) (within c))
  firsts_by d false other = ap (take (at_class n d)) (at_class-other l c d xs other)

  pub pushed-firsts : (d : Class) → firsts_of (with_class l c xs) n d ≡ firsts_of l n d
  pushed-firsts d = firsts_by d (same_class d c) refl

  pub pushed-others_own : others_of (with_class l c xs) n c ≡ others_of l n c ++ x ∷ []
  pushed-others_own = ap (drop (at_class n c)) pushed-own ∙ drop-append-le (at_class n c) (at_class l c) (x ∷ []) (within c)

  pub pushed-others : (d : Class) → same_class d c ≡ false → others_of (with_class l c xs) n d ≡ others_of l n d
  pushed-others d other = ap (drop (at_class n d)) (at_class-other l c d xs other)

  longer_by : (d : Class) (b : Bool) → same_class d c ≡ b → at_class n d ≤ length (at_class (with_class l c xs) d)
  longer_by d true same =
      let P : Class → Type 0 = λ e. at_class n e ≤ length (at_class (with_class l c xs) e) in
      let fit = within c in
      let size = ap length pushed-own ∙ length-append (at_class l c) (x ∷ []) in
      subst P (same_class-true d c same) (omega arith)
  longer_by d false other = (let fit = within d in let size = ap length (at_class-other l c d xs other) in omega arith)

  pub pushed-within : (d : Class) → at_class n d ≤ length (at_class (with_class l c xs) d)
  pushed-within d = longer_by d (same_class d c) refl

module _ {T : Type 0} where
  pub fronts_left : (l : PerClass (List (Entry T))) (n : PerClass ℕ) (c : Class) (e : Entry T) (es : List (Entry T)) (k : ℕ) → at_class l c ≡ e ∷ es → at_class n c ≡ suc k → Fronts (firsts_of l n) (firsts_of (with_class l c es) (with_class n c k)) c e
  fronts_left l n c e es k is count = record {
    own = firsts-own l n c e es k is count;
    others = λ d other. firsts-other l n c e es k is count d other;
  }

  -- all are left
  pub halves_start : (cap next : ℕ) (l : PerClass (List (Entry T))) (n : PerClass ℕ) → ((d : Class) → at_class n d ≡ length (at_class l d)) → AreClassQueues cap (at_class l) next None → Moves cap next 0 (others_of l n) (firsts_of l n) (waiting_of (at_class l))
  halves_start cap next l n len k =
      let same : (d : Class) → at_class l d ≡ firsts_of l n d = λ d. sym (ap (λ j. take j (at_class l d)) (len d) ∙ take-length (at_class l d)) in
      let none : (d : Class) → others_of l n d ≡ [] = λ d. ap (λ j. drop j (at_class l d)) (len d) ∙ drop-length (at_class l d) in
      subst (Moves cap next 0 (others_of l n) (firsts_of l n)) (ap items (arrivals-cong (firsts_of l n) (at_class l) (λ d. sym (same d))))
      (moves_start cap next (others_of l n) (firsts_of l n) (kept_cong cap (at_class l) (firsts_of l n) next same k) none)

  whole_length : (l : PerClass (List (Entry T))) (n : PerClass ℕ) (d : Class) → length (at_class l d) ≡ length (firsts_of l n d) + length (others_of l n d)
  whole_length l n d = ap length (sym (take-append-drop (at_class n d) (at_class l d))) ∙ length-append (firsts_of l n d) (others_of l n d)

  -- once the oldest that was left has left its queue, that has a place for it
  pub halves_room : (cap next number : ℕ) (l m : PerClass (List (Entry T))) (n p : PerClass ℕ) (all : List (Class × T)) (c : Class) (item : T) → Moves cap next number (others_of l n) (firsts_of l n) all → waiting_of (firsts_of l n) ≡ (c, item) ∷ waiting_of (firsts_of m p)
      → ((d : Class) → others_of m p d ≡ others_of l n d) → length (at_class m c) < cap
  halves_room cap next number l m n p all c item moves first others =
      let room = moves_room cap next number (others_of l n) (firsts_of l n) (firsts_of m p) all c item moves first in
      let same = ap length (others c) in
      let whole = whole_length m p c in
      omega arith

  -- the oldest that was left goes behind the others of its class, with the next number
  pub halves_more : (cap next number : ℕ) (l m : PerClass (List (Entry T))) (n p : PerClass ℕ) (all : List (Class × T)) (c : Class) (item : T) (q : List (Entry T)) → Moves cap next number (others_of l n) (firsts_of l n) all → waiting_of (firsts_of l n) ≡ (c, item) ∷ waiting_of (firsts_of m p)
      → AreClassQueues cap (firsts_of m p) next None → ((d : Class) → others_of m p d ≡ others_of l n d) → ((d : Class) → at_class p d ≤ length (at_class m d)) → q ≡ at_class m c ++ record { number = number; item = item } ∷ []
      → Moves cap next (number + 1) (others_of (with_class m c q) p) (firsts_of (with_class m c q) p) all
  halves_more cap next number l m n p all c item q moves first kept others within is =
      let e : Entry T = record { number = number; item = item } in
      let same : (d : Class) → firsts_of m p d ≡ firsts_of (with_class m c q) p d = λ d. sym (pushed-firsts m p c e q is within d) in
      moves_more cap next number (others_of l n) (others_of (with_class m c q) p) (firsts_of l n) (firsts_of (with_class m c q) p) all c item moves
      (first ∙ ap (λ ws. (c, item) ∷ ws) (ap items (arrivals-cong (firsts_of m p) (firsts_of (with_class m c q) p) same)))
      (kept_cong cap (firsts_of m p) (firsts_of (with_class m c q) p) next same kept)
      (record {
        own = pushed-others_own m p c e q is within ∙ ap (λ es. es ++ e ∷ []) (others c);
        others = λ d other. pushed-others m p c e q is within d other ∙ others d;
      })

  -- fewer are left than before
  pub halves_fewer : (l m : PerClass (List (Entry T))) (n p : PerClass ℕ) (c : Class) (item : T) (e : Entry T) (q : List (Entry T)) → waiting_of (firsts_of l n) ≡ (c, item) ∷ waiting_of (firsts_of m p) → ((d : Class) → at_class p d ≤ length (at_class m d)) → q ≡ at_class m c ++ e ∷ []
      → length (waiting_of (firsts_of (with_class m c q) p)) < length (waiting_of (firsts_of l n))
  halves_fewer l m n p c item e q first within is =
      let one = ap length first in
      let same = ap length (ap items (arrivals-cong (firsts_of (with_class m c q) p) (firsts_of m p) (pushed-firsts m p c e q is within))) in
      omega arith

  none_of : (es : List (Entry T)) → length es ≡ 0 → es ≡ []
  none_of [] none = refl
  none_of (e ∷ es) none = absurd (omega arith)

  -- where none is left, all stand behind
  pub halves_end : (l : PerClass (List (Entry T))) (n : PerClass ℕ) → waiting_of (firsts_of l n) ≡ [] → (d : Class) → others_of l n d ≡ at_class l d
  halves_end l n none d =
      let is = sym (count_of-waiting (firsts_of l n) d) ∙ ap (count_of d) none in
      let empty : firsts_of l n d ≡ [] = none_of (firsts_of l n d) is in
      ap (λ es. es ++ others_of l n d) (sym empty) ∙ take-append-drop (at_class n d) (at_class l d)

  pub halves_waiting : (cap next number : ℕ) (l : PerClass (List (Entry T))) (n : PerClass ℕ) (all : List (Class × T)) → Moves cap next number (others_of l n) (firsts_of l n) all → waiting_of (firsts_of l n) ≡ [] → waiting_of (at_class l) ≡ all
  halves_waiting cap next number l n all moves none =
      ap items (arrivals-cong (at_class l) (others_of l n) (λ d. sym (halves_end l n none d)))
      ∙ (sym (append-nil (waiting_of (others_of l n))) ∙ (ap (λ ws. waiting_of (others_of l n) ++ ws) (sym none) ∙ moves.together))

  pub halves_kept : (cap next number : ℕ) (l : PerClass (List (Entry T))) (n : PerClass ℕ) (all : List (Class × T)) → Moves cap next number (others_of l n) (firsts_of l n) all → waiting_of (firsts_of l n) ≡ [] → AreClassQueues cap (at_class l) number None
  halves_kept cap next number l n all moves none = kept_cong cap (others_of l n) (at_class l) number (halves_end l n none) moves.fresh_kept
