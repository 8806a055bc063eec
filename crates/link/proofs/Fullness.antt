-- A queue, in which each packet waits under its own class, is full where so many packets of the class wait.
use Rattle.std.proofs.Common.{◌≡◌, ℕ, ◌==◌, ◌<◌, Bool, true, false, List, Result, Ok, Err, refl, sym, ap, ◌∙◌, arith}
use Rattle.std.specs.Prelude.{◌↔◌, IsTrue}
use Rattle.std.specs.Bool.{OnTrue}
use Rattle.std.specs.Result.{MatchResult}
use Rattle.std.proofs.lemmas.Bool.{eqb-true, eq-eqb}
use Rattle.fab_types.specs.declared.head.Head.{Head}
use Rattle.frame_log.specs.Descriptor.{Descriptor}
use Rattle.credit.specs.Kinds.{Kind}
use Rattle.port_queue.specs.Queue.{count_of}
use Rattle.lane.specs.Lanes.{Class, class_of}
use Rattle.lane.specs.Queues.{IsSorted, frames_of}
use Rattle.link.specs.Channels.{count_in, total}
use Rattle.link.proofs.Totals.{count-total, count_in-total}

same_count : (most : ℕ) (class : Class) (ws : List (Class × Descriptor)) → IsSorted ws → (count_of class ws == most) ≡ (count_in class (frames_of ws) == most)
same_count most class ws sorted = ap (λ (n : ℕ). n == most) (count-total class ws sorted ∙ sym (count_in-total class (frames_of ws)))

pub full_exact : (most : ℕ) (class : Class) (full : Bool) (ws : List (Class × Descriptor)) → IsSorted ws → full ≡ (count_of class ws == most) → full ≡ (count_in class (frames_of ws) == most)
full_exact most class full ws sorted e = e ∙ same_count most class ws sorted

pub full_where : (full : Bool) (sure : Bool) → full ≡ sure → OnTrue full (sure ≡ true)
full_where true sure e = sym e
full_where false sure e = tt

-- what a put answers
pub put_or_full : {T E : Type 0} (most : ℕ) (class : Class) (result : Result T E) (ws : List (Class × Descriptor)) → IsSorted ws
    → MatchResult result (λ _. (count_of class ws == most) ≡ false) (λ _. (count_of class ws == most) ≡ true)
    → MatchResult result (λ _. (count_in class (frames_of ws) == most) ≡ false) (λ _. (count_in class (frames_of ws) == most) ≡ true)
put_or_full most class (Ok x) ws sorted e = sym (same_count most class ws sorted) ∙ e
put_or_full most class (Err x) ws sorted e = sym (same_count most class ws sorted) ∙ e

-- ---- a test for equal numbers

contradiction : true ≡ false → ⊥
contradiction h = cc

test_is : (full : Bool) (n m : ℕ) → (IsTrue full ↔ (n ≡ m)) → full ≡ (n == m)
test_is full n m same = by full (n == m) (λ t. eq-eqb n m (same.0 t)) (λ e. same.1 (eqb-true n m e))
  where
    by : (b equal : Bool) → (IsTrue b → equal ≡ true) → (equal ≡ true → IsTrue b) → b ≡ equal
    by true equal there back = sym (there refl)
    by false true there back = absurd (contradiction (sym (back refl)))
    by false false there back = refl

-- what the queue tells by a test of its own
pub place_exact : (most : ℕ) (class : Class) (full : Bool) (ws : List (Class × Descriptor)) → IsSorted ws → (IsTrue full ↔ (count_of class ws ≡ most)) → full ≡ (count_in class (frames_of ws) == most)
place_exact most class full ws sorted same = full_exact most class full ws sorted (test_is full (count_of class ws) most same)

not_equal : (n m : ℕ) → (n ≡ m → ⊥) → (n == m) ≡ false
not_equal n m never = by (n == m) (eqb-true n m)
  where
    by : (b : Bool) → (b ≡ true → n ≡ m) → b ≡ false
    by true back = absurd (never (back refl))
    by false back = refl

-- a receiver with header credits to give has a place
pub places_left : (class : Class) (fs : List Descriptor) → total (Kind.Headers class) fs < 127 → (count_in class fs == 127) ≡ false
places_left class fs few = not_equal (count_in class fs) 127 (λ e. let counts = count_in-total class fs in omega arith)

-- where a packet has a place, its class isn't full
pub full_never : (head : Head) (f : Descriptor) (ws : List (Class × Descriptor)) → head ≡ f.head → IsSorted ws → (count_in (class_of f) (frames_of ws) == 127) ≡ false → count_of head.cost.class ws ≡ 127 → ⊥
full_never head f ws e sorted place full =
    let counts : count_in (class_of f) (frames_of ws) ≡ 127 =
    sym (ap (λ (h : Head). count_in h.cost.class (frames_of ws)) e) ∙ (count_in-total head.cost.class (frames_of ws) ∙ (sym (count-total head.cost.class ws sorted) ∙ full)) in
    contradiction (sym (eq-eqb (count_in (class_of f) (frames_of ws)) 127 counts) ∙ place)
