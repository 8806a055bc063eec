-- What an entry makes of what a domain has in flight: one packet leaves, or none, and one joins, or none.
use Rattle.std.proofs.Common.{◌≡◌, ◌≢◌, ◌⊎◌, inl, inr, ℕ, zero, suc, ◌+◌, ◌<◌, ◌==◌, Bool, false, cond, List, [], ◌∷◌, ◌++◌, length, set, Option, Some, None, refl, sym, ap, ◌∙◌, subst, arith, eq-eqb, ne_eqb}
use Rattle.std.specs.Prelude.{option_map, slice_set}
use Rattle.std.proofs.lemmas.Bool.{cases_eq}
use Rattle.fab_types.specs.declared.faults.begin.MmioFault.{MmioFault}
use Rattle.fab_types.specs.declared.faults.begin.SubmitFault.{SubmitFault}
use Rattle.fab_types.specs.declared.faults.begin.TickFault.{TickFault}
use Rattle.fab_types.specs.declared.head.Parties.{Parties}
use Rattle.fab_types.specs.declared.place.Place.{Place}
use Rattle.function.specs.Plans.{plan_of}
use Rattle.platform.specs.Share.{Share}
use Rattle.platform.specs.Owners.{bar_of}
use Rattle.fab_types.specs.declared.host_access.HostAccess.{HostAccess}
use Rattle.domain.specs.declared.entry.Entry.TheVariants.{Alien, Carry, Deliver, Mmio, Refuse, Submit, Tick}
use Rattle.domain.specs.Deliveries.{arrival, arrived}
use Rattle.domain_state.specs.Ends.{replied}
use Rattle.domain_state.specs.HostAccesses.{mmio_fault, mmio_unless, mmio_with, tag_for}
use Rattle.domain.specs.Machine.{change}
use Rattle.request_handling.specs.Emissions.{Emission}
use Rattle.domain_state.specs.State.{Alone, Change, emits_nothing, item_at, without}
use Rattle.domain.specs.Submits.{submit_fault, submit_unless}
use Rattle.domain.specs.Ticks.{sent_by, tick_fault, tick_unless, ticked, ticks, ticks_by}
use Rattle.domain.proofs.Leaving.{alien_flight, carry_flight, deliver_flight, joined, refuse_flight}
use Rattle.domain.specs.Consumed.{times_waiting}

abbrev some : {A : Type 0} → A → Option A
some x = Some x

some_is : {A : Type 0} (x y : A) → some x ≡ some y → x ≡ y
some_is x y e = cc

-- ---- each entry

-- a packet joins what was in flight, or none does
abbrev pub Begins : Alone → Change → Type 0
Begins s c = c.state.flight ≡ joined s.flight c.emission

-- the same, and this one leaves
abbrev pub EndsOne : Alone → ℕ → Change → Type 0
EndsOne s n c = c.state.flight ≡ joined (slice_set s.flight n None) c.emission

replied_flight : (s : Alone) (o : Option Emission) → (replied s o).flight ≡ joined s.flight o
replied_flight s None = refl
replied_flight s (Some e) = refl

submits : (s : Alone) (f : ℕ) (b : List ℕ) (fault : Option SubmitFault) (c : Change) → submit_unless fault s f b ≡ Some c → Begins s c
submits s f b None c e = subst (Begins s) (some_is _ c e) refl
submits s f b (Some fault) c e = absurd cc

pub submit_begins : (share : Share) (s : Alone) (f : ℕ) (b : List ℕ) (c : Change) → change share s (Submit f b) ≡ Some c → Begins s c
submit_begins share s f b c e = submits s f b (submit_fault share s f b) c e

ticks_on : (s : Alone) (f : ℕ) (page : Option (List ℕ)) (c : Change) → ticks s f page ≡ Some c → Begins s c
ticks_on s f None c e = absurd cc
ticks_on s f (Some page) c e =
    let plan = plan_of f page s.open_tags in
    subst (Begins s) (some_is (ticks_by s f plan) c e) (replied_flight (ticked s f plan) (sent_by f plan))

ticks_unless : (s : Alone) (f : ℕ) (fault : Option TickFault) (c : Change) → tick_unless fault s f ≡ Some c → Begins s c
ticks_unless s f None c e = ticks_on s f _ c e
ticks_unless s f (Some fault) c e = absurd cc

pub tick_begins : (share : Share) (s : Alone) (f : ℕ) (c : Change) → change share s (Tick f) ≡ Some c → Begins s c
tick_begins share s f c e = ticks_unless s f (tick_fault share s f) c e

accesses : (share : Share) (s : Alone) (access : HostAccess) (tag bar : Option ℕ) (c : Change) → mmio_with share s access tag bar ≡ Some c → Begins s c
accesses share s access None bar c e = absurd cc
accesses share s access (Some tag) None c e = absurd cc
accesses share s access (Some tag) (Some bar) c e = subst (Begins s) (some_is _ c e) refl

accesses_unless : (share : Share) (s : Alone) (access : HostAccess) (fault : Option MmioFault) (c : Change) → mmio_unless fault share s access ≡ Some c → Begins s c
accesses_unless share s access None c e = accesses share s access (tag_for s.open_tags share.domain access.operation) (bar_of share.functions access.function) c e
accesses_unless share s access (Some fault) c e = absurd cc

pub mmio_begins : (share : Share) (s : Alone) (access : HostAccess) (c : Change) → change share s (Mmio access) ≡ Some c → Begins s c
mmio_begins share s access c e = accesses_unless share s access (mmio_fault share s access) c e

-- nothing leaves by an alien packet, since its number is its home's
pub alien_begins : (share : Share) (s : Alone) (place : Place) (sender : Parties) (b : List ℕ) (c : Change) → change share s (Alien place sender b) ≡ Some c → Begins s c
alien_begins share s place sender b c e = alien_flight share s place sender b c e

pub refuse_ends : (share : Share) (s : Alone) (n : ℕ) (c : Change) → change share s (Refuse n) ≡ Some c → EndsOne s n c
refuse_ends share s n c e = refuse_flight share s n c e

pub carry_ends : (share : Share) (s : Alone) (n : ℕ) (c : Change) → change share s (Carry n) ≡ Some c → EndsOne s n c
carry_ends share s n c e = carry_flight share s n c e

silent : {A : Type 0} (f : A → Alone) (o : Option A) (c : Change) → option_map (λ (a : A). emits_nothing (f a)) o ≡ Some c → c.emission ≡ None
silent f None c e = absurd cc
silent f (Some a) c e = ap (λ (x : Change). x.emission) (sym (some_is (emits_nothing (f a)) c e))

-- a delivery emits nothing
pub deliver_silent : (share : Share) (s : Alone) (n : ℕ) (c : Change) → change share s (Deliver n) ≡ Some c → c.emission ≡ None
deliver_silent share s n c e = silent (arrived (without s n)) (arrival s.open_tags (item_at s.flight n)) c e

pub deliver_ends : (share : Share) (s : Alone) (n : ℕ) (c : Change) → change share s (Deliver n) ≡ Some c → EndsOne s n c
deliver_ends share s n c e = deliver_flight share s n c e ∙ ap (joined (slice_set s.flight n None)) (sym (deliver_silent share s n c e))

-- ---- how often a number is in flight

-- 1 if it is so
abbrev pub one_if : Bool → ℕ
one_if b = cond b 1 0

suc_same : (k n : ℕ) → (suc k == suc n) ≡ (k == n)
suc_same k n = by (cases_eq k n)
  where
    by : (k ≡ n) ⊎ (k ≢ n) → (suc k == suc n) ≡ (k == n)
    by (inl e) = eq-eqb (suc k) (suc n) (ap suc e) ∙ sym (eq-eqb k n e)
    by (inr other) = ne_eqb (suc k) (suc n) (λ e. other (omega arith)) ∙ sym (ne_eqb k n other)

suc_other : (n : ℕ) → (suc n == 0) ≡ false
suc_other n = ne_eqb (suc n) 0 (λ e. omega arith)

zero_other : (n : ℕ) → (0 == suc n) ≡ false
zero_other n = ne_eqb 0 (suc n) (λ e. omega arith)

pub joined_times : (xs : List (Option Emission)) (e : Emission) (n : ℕ) → times_waiting (item_at (xs ++ Some e ∷ []) n) ≡ times_waiting (item_at xs n) + one_if (length xs == n)
joined_times [] e zero = refl
joined_times [] e (suc n) = let no_match = ap one_if (zero_other n) in omega (arith, no_match)
joined_times (x ∷ xs) e zero = let no_match = ap one_if (suc_other (length xs)) in omega (arith, no_match)
joined_times (x ∷ xs) e (suc n) = let same = ap one_if (suc_same (length xs) n) in omega (arith, joined_times xs e n, same)

pub set_times : (xs : List (Option Emission)) (k n : ℕ) (e : Emission) → item_at xs k ≡ Some e → times_waiting (item_at (set xs k None) n) + one_if (k == n) ≡ times_waiting (item_at xs n)
set_times [] k n e is = absurd cc
set_times (x ∷ xs) zero zero e is = ap times_waiting (sym is)
set_times (x ∷ xs) zero (suc n) e is = let no_match = ap one_if (zero_other n) in omega (arith, no_match)
set_times (x ∷ xs) (suc k) zero e is = let no_match = ap one_if (suc_other k) in omega (arith, no_match)
set_times (x ∷ xs) (suc k) (suc n) e is = let same = ap one_if (suc_same k n) in omega (arith, set_times xs k n e is, same)

-- ---- what is under each number

pub within : (xs : List (Option Emission)) (n : ℕ) (e : Emission) → item_at xs n ≡ Some e → n < length xs
within [] n e is = absurd cc
within (x ∷ xs) zero e is = omega arith
within (x ∷ xs) (suc n) e is = (let less = within xs n e is in omega (arith, less))

pub push_before : (xs : List (Option Emission)) (o : Option Emission) (n : ℕ) → n < length xs → item_at (joined xs o) n ≡ item_at xs n
push_before xs None n less = refl
push_before [] (Some e) n less = absurd (omega (arith, less))
push_before (x ∷ xs) (Some e) zero less = refl
push_before (x ∷ xs) (Some e) (suc n) less = push_before xs (Some e) n (omega (arith, less))

pub push_last : (xs : List (Option Emission)) (e : Emission) → item_at (xs ++ Some e ∷ []) (length xs) ≡ Some e
push_last [] e = refl
push_last (x ∷ xs) e = push_last xs e

pub set_item : (xs : List (Option Emission)) (k n : ℕ) → (item_at (set xs k None) n ≡ item_at xs n) ⊎ (item_at (set xs k None) n ≡ None)
set_item [] k n = inl refl
set_item (x ∷ xs) zero zero = inr refl
set_item (x ∷ xs) zero (suc n) = inl refl
set_item (x ∷ xs) (suc k) zero = inl refl
set_item (x ∷ xs) (suc k) (suc n) = set_item xs k n
