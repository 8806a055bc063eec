-- What an entry of the journal ended, and what is in flight, is all that a domain made.
use Rattle.std.proofs.Common.{◌≡◌, ℕ, suc, ◌+◌, ◌<◌, Bool, cond, List, [], ◌∷◌, length, get_or, Option, Some, None, refl, ap, ◌∙◌, subst, add-zero, arith}
use Rattle.std.specs.Prelude.{count_by, is_some, sum_by}
use Rattle.std.specs.List.{range_with_len}
use Rattle.std.proofs.lemmas.Bool.{lt-ltb}
use Rattle.std.proofs.lemmas.List.Sums.{sum_by-cons}
use Rattle.domain.specs.Consumed.{AreConsumedOnce, times_consumed, times_waiting}
use Rattle.domain.specs.declared.entry.Entry.{Entry}
use Rattle.domain_state.specs.State.{Alone}
use Rattle.request_handling.specs.Emissions.{Emission}

waits : (o : Option Emission) → cond (is_some o) 1 0 ≡ times_waiting o
waits None = refl
waits (Some e) = refl

counted : (ended : ℕ → ℕ) (flight : List (Option Emission)) (a : ℕ) → ((i : ℕ) → i < length flight → ended (a + i) + times_waiting (get_or flight i None) ≡ 1)
    → sum_by ended (range_with_len a (length flight)) + count_by is_some flight ≡ length flight
counted ended [] a each = refl
counted ended (o ∷ flight) a each =
    let first : ended a + times_waiting o ≡ 1 = subst (λ (n : ℕ). ended n + times_waiting o ≡ 1) (add-zero a) (each 0 (omega arith)) in
    let next = counted ended flight (a + 1)
    (λ i lt. subst (λ (n : ℕ). ended n + times_waiting (get_or flight i None) ≡ 1) (omega arith) (each (suc i) (omega (arith, lt)))) in
    let head = sum_by-cons ended a (range_with_len (a + 1) (length flight)) in
    let one = sum_by-cons (λ (x : Option Emission). cond (is_some x) 1 0) o flight in
    let w = waits o in
    omega (arith, first, next, head, one, w)

pub consumed_or_waiting : (journal : List Entry) (s : Alone) → AreConsumedOnce journal s
    → sum_by (λ n. times_consumed n journal) (range_with_len 0 (length s.flight)) + count_by is_some s.flight ≡ length s.flight
consumed_or_waiting journal s once =
    counted (λ (n : ℕ). times_consumed n journal) s.flight 0
    (λ i lt. subst (λ (n : ℕ). times_consumed n journal + times_waiting (get_or s.flight i None) ≡ 1) (omega arith) (once i ∙ ap (λ (b : Bool). cond b 1 0) (lt-ltb i (length s.flight) lt)))
