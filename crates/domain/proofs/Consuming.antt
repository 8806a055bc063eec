-- Each packet that a domain made is in flight, or one entry of the journal consumed it.
use Rattle.std.proofs.Common.{◌≡◌, ℕ, zero, suc, ◌+◌, ◌==◌, Bool, true, cond, List, [], ◌∷◌, ◌++◌, length, Option, Some, None, refl, sym, ap, ◌∙◌, subst, arith, slice_set, length-set, eqb-true}
use Rattle.std.specs.Prelude.{IsSome, nat_lt}
use Rattle.std.proofs.Math.Dec.{eqb-suc-suc, eqb-suc-zero, eqb-zero-suc, leb-suc-suc, leb-suc-zero, leb-zero}
use Rattle.std.proofs.lemmas.List.Sums.{sum_by-cons}
use Rattle.platform.specs.Share.{Share}
use Rattle.request_handling.specs.declared.handling.Handling.{Handling}
use Rattle.domain.specs.declared.entry.Entry.{Entry}
use Rattle.domain.specs.declared.entry.Entry.TheVariants.{Submit, Tick, Mmio, Refuse, Carry, Deliver, Alien}
use Rattle.request_handling.specs.Carries.{carriage_end, refusal_end}
use Rattle.domain.specs.Consumed.{AreConsumedOnce, consumes, times_consumed, times_waiting}
use Rattle.domain.specs.Machine.{change, deliver, ended, replay, replay_from}
use Rattle.request_handling.specs.Emissions.{Emission}
use Rattle.domain_state.specs.State.{Alone, Change, item_at, start_state}
use Rattle.domain.proofs.Accounting.{goes_on}
use Rattle.domain.proofs.Joining.{mmio_flight, submit_flight, tick_flight}
use Rattle.domain.proofs.Leaving.{alien_flight, carry_flight, deliver_flight, joined, refuse_flight}

abbrev some : {A : Type 0} → A → Option A
some x = Some x

some_is : {A : Type 0} (x y : A) → some x ≡ some y → x ≡ y
some_is x y e = cc

-- 1 if it is so
abbrev one_if : Bool → ℕ
one_if b = cond b 1 0

-- how often a packet of this number was made, and how often it waits
abbrev made : List (Option Emission) → ℕ → ℕ
made flight n = one_if (nat_lt n (length flight))

abbrev waits : List (Option Emission) → ℕ → ℕ
waits flight n = times_waiting (item_at flight n)

-- a packet was consumed so often from the old flight to the new, if it waited or was made since, and waits no more
abbrev Balances : ℕ → List (Option Emission) → List (Option Emission) → ℕ → Type 0
Balances consumed old new n = consumed + waits new n + made old n ≡ waits old n + made new n

-- ---- a packet joins what is in flight, or leaves it

made_none : (n : ℕ) → made [] n ≡ 0
made_none n = ap one_if (leb-suc-zero n)

made_first : (x : Option Emission) (xs : List (Option Emission)) → made (x ∷ xs) 0 ≡ 1
made_first x xs = ap one_if (leb-suc-suc 0 (length xs) ∙ leb-zero (length xs))

made_later : (x : Option Emission) (xs : List (Option Emission)) (n : ℕ) → made (x ∷ xs) (suc n) ≡ made xs n
made_later x xs n = ap one_if (leb-suc-suc (suc n) (length xs))

push_balances : (xs : List (Option Emission)) (e : Emission) (n : ℕ) → Balances 0 xs (xs ++ Some e ∷ []) n
push_balances [] e zero = refl
push_balances [] e (suc n) = omega (arith, made_none (suc n), made_none n, made_later (Some e) [] n)
push_balances (x ∷ xs) e zero = omega (arith, made_first x xs, made_first x (xs ++ Some e ∷ []))
push_balances (x ∷ xs) e (suc n) = omega (arith, push_balances xs e n, made_later x xs n, made_later x (xs ++ Some e ∷ []) n)

joined_balances : (xs : List (Option Emission)) (o : Option Emission) (n : ℕ) → Balances 0 xs (joined xs o) n
joined_balances xs None n = omega arith
joined_balances xs (Some e) n = push_balances xs e n

cleared_waits : (xs : List (Option Emission)) (k n : ℕ) → waits xs k ≡ 1 → one_if (k == n) + waits (slice_set xs k None) n ≡ waits xs n
cleared_waits [] k n is = absurd (omega (arith, is))
cleared_waits (x ∷ xs) zero zero is = sym is
cleared_waits (x ∷ xs) zero (suc n) is = let other = ap one_if (eqb-zero-suc n) in omega (arith, other)
cleared_waits (x ∷ xs) (suc k) zero is = let other = ap one_if (eqb-suc-zero k) in omega (arith, other)
cleared_waits (x ∷ xs) (suc k) (suc n) is = let same = ap one_if (eqb-suc-suc k n) in omega (arith, cleared_waits xs k n is, same)

cleared_made : (xs : List (Option Emission)) (k n : ℕ) → made (slice_set xs k None) n ≡ made xs n
cleared_made xs k n = ap (λ (m : ℕ). one_if (nat_lt n m)) (length-set xs k None)

-- ---- each entry

joins : (s : Alone) (c : Change) (n : ℕ) → c.state.flight ≡ joined s.flight c.emission → Balances 0 s.flight c.state.flight n
joins s c n grown = subst (λ (new : List (Option Emission)). Balances 0 s.flight new n) (sym grown) (joined_balances s.flight c.emission n)

leaves : (s : Alone) (k : ℕ) (new : List (Option Emission)) (o : Option Emission) (n : ℕ) → waits s.flight k ≡ 1 → new ≡ joined (slice_set s.flight k None) o
    → Balances (one_if (k == n)) s.flight new n
leaves s k new o n is left =
    let less = slice_set s.flight k None in
    subst (λ (now : List (Option Emission)). Balances (one_if (k == n)) s.flight now n) (sym left)
    (omega (arith, joined_balances less o n, cleared_waits s.flight k n is, cleared_made s.flight k n))

-- what ends was in flight
ended_waits : (s : Alone) (k : ℕ) (o : Option Emission) (r : Option Handling) (c : Change) → ended s k o r ≡ Some c → times_waiting o ≡ 1
ended_waits s k None r c h = absurd cc
ended_waits s k (Some e) r c h = refl

delivered_waits : (s : Alone) (k : ℕ) (o : Option Emission) (c : Change) → deliver s k o ≡ Some c → times_waiting o ≡ 1
delivered_waits s k None c h = absurd cc
delivered_waits s k (Some e) c h = refl

entry_balances : (share : Share) (s : Alone) (entry : Entry) (c : Change) (n : ℕ) → change share s entry ≡ Some c → Balances (one_if (consumes n entry)) s.flight c.state.flight n
entry_balances share s (Submit f b) c n h = joins s c n (submit_flight share s f b c h)
entry_balances share s (Tick f) c n h = joins s c n (tick_flight share s f c h)
entry_balances share s (Mmio x) c n h = joins s c n (mmio_flight share s x c h)
entry_balances share s (Refuse k) c n h =
    let o = item_at s.flight k in
    leaves s k c.state.flight c.emission n (ended_waits s k o (refusal_end share o) c h) (refuse_flight share s k c h)
entry_balances share s (Carry k) c n h =
    let o = item_at s.flight k in
    leaves s k c.state.flight c.emission n (ended_waits s k o (carriage_end share s.frames s.registers o) c h) (carry_flight share s k c h)
entry_balances share s (Deliver k) c n h = leaves s k c.state.flight None n (delivered_waits s k (item_at s.flight k) c h) (deliver_flight share s k c h)
entry_balances share s (Alien place sender b) c n h = joins s c n (alien_flight share s place sender b c h)

-- ---- the entries of a journal

journal_balances : (share : Share) (s : Alone) (journal : List Entry) (t : Alone) (n : ℕ) → replay_from share (Some s) journal ≡ Some t → Balances (times_consumed n journal) s.flight t.flight n
journal_balances share s [] t n h = subst (λ (u : Alone). Balances 0 s.flight u.flight n) (some_is s t h) (joined_balances s.flight None n)
journal_balances share s (x ∷ xs) t n h =
    goes_on share xs (change share s x) t
    (λ c is rest. omega (arith, entry_balances share s x c n is, journal_balances share c.state xs t n rest, sum_by-cons (λ (y : Entry). one_if (consumes n y)) x xs)) h

pub consumed_once : (share : Share) (journal : List Entry) (s : Alone) → replay share journal ≡ Some s → AreConsumedOnce journal s
consumed_once share journal s h = λ n. let all = journal_balances share (start_state share) journal s n h in omega (arith, all, made_none n)

-- ---- what an entry consumes is in flight

waits_is : (o : Option Emission) → times_waiting o ≡ 1 → IsSome o
waits_is None is = absurd (omega (arith, is))
waits_is (Some e) is = refl

same_waits : (s : Alone) (k n : ℕ) → times_waiting (item_at s.flight k) ≡ 1 → k == n ≡ true → IsSome (item_at s.flight n)
same_waits s k n is same = subst (λ (m : ℕ). IsSome (item_at s.flight m)) (eqb-true k n same) (waits_is (item_at s.flight k) is)

pub consumed_needs : (share : Share) (s : Alone) (entry : Entry) (c : Change) (n : ℕ) → change share s entry ≡ Some c → consumes n entry ≡ true → IsSome (item_at s.flight n)
consumed_needs share s (Submit f b) c n h is = absurd cc
consumed_needs share s (Tick f) c n h is = absurd cc
consumed_needs share s (Mmio x) c n h is = absurd cc
consumed_needs share s (Refuse k) c n h is = let o = item_at s.flight k in same_waits s k n (ended_waits s k o (refusal_end share o) c h) is
consumed_needs share s (Carry k) c n h is = let o = item_at s.flight k in same_waits s k n (ended_waits s k o (carriage_end share s.frames s.registers o) c h) is
consumed_needs share s (Deliver k) c n h is = same_waits s k n (delivered_waits s k (item_at s.flight k) c h) is
consumed_needs share s (Alien place sender b) c n h is = absurd cc
