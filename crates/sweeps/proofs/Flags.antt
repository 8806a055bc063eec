-- Flags that are set and cleared: who is awake.
use Rattle.std.proofs.Common.{◌≡◌, ◌⊎◌, inl, inr, ℕ, zero, suc, ◌≤◌, Bool, true, false, List, [], ◌∷◌, length, map, set, take, replicate, Some, refl, sym, ap, ◌∙◌, subst, arith}
use Rattle.std.specs.Prelude.{◌||◌, not, slice_get}
use Rattle.std.proofs.lemmas.Bool.{false≢true}
use Rattle.std.proofs.lemmas.List.{get_or-replicate, length-map, length-replicate, length-set}
use Rattle.std.proofs.lemmas.Option.{get_or_from_slice_get, same_Some, slice_get_within}
use Rattle.topology.proofs.Members.{nothing_contained}
use Rattle.fab_types.proofs.Taking.{take_all}
use Rattle.sweeps.specs.declared.moves.Moves.{Moves}
use Rattle.sweeps.specs.declared.watchpoint.Watchpoint.{Watchpoint}
use Rattle.sweeps.specs.Asleep.{AreWoken, IsSettledAt, IsUnblocked, IsUnwoken, Nowhere, has_moved}

-- ---- woken

-- an element of a list in which one was set: that one, or another that was there
placed : (flags : List Bool) (place q : ℕ) (new b : Bool) → slice_get (set flags place new) q ≡ Some b → ((q ≡ place) × (new ≡ b)) ⊎ ((q ≡ place → ⊥) × (slice_get flags q ≡ Some b))
placed [] place q new b is = absurd cc
placed (x ∷ flags) zero zero new b is = inl (refl, same_Some new b is)
placed (x ∷ flags) zero (suc q) new b is = inr (λ same. absurd (omega (arith, same)), is)
placed (x ∷ flags) (suc place) zero new b is = inr (λ same. absurd (omega (arith, same)), is)
placed (x ∷ flags) (suc place) (suc q) new b is = again (placed flags place q new b is)
  where
    again : ((q ≡ place) × (new ≡ b)) ⊎ ((q ≡ place → ⊥) × (slice_get flags q ≡ Some b)) → ((suc q ≡ suc place) × (new ≡ b)) ⊎ ((suc q ≡ suc place → ⊥) × (slice_get flags q ≡ Some b))
    again (inl own) = inl (ap suc own.0, own.1)
    again (inr other) = inr (λ same. other.0 (omega (arith, same)), other.1)

module _ (IsSpared : ℕ → Type 0) where
  pub woken_start : (moved : Bool) (old : List Bool) → AreWoken IsSpared moved [] old old
  woken_start moved old = record { all = refl; still = λ place is. (is, λ m within. absurd (nothing_contained place within)) }

  pub woken_whole : (places : List ℕ) (i : ℕ) (old new : List Bool) → length places ≤ i → AreWoken IsSpared true (take i places) old new → AreWoken IsSpared true places old new
  woken_whole places i old new most woken = subst (λ (ps : List ℕ). AreWoken IsSpared true ps old new) (take_all places i most) woken

-- ---- settled

module _ (watchpoint : Watchpoint) (place : ℕ) (moves : Moves) (may_sleep : Bool) (blocked old a b c d : List Bool) (first : AreWoken Nowhere moves.taken watchpoint.by_taking.items old a) (second : AreWoken (IsUnblocked blocked) moves.taken watchpoint.by_freeing.items a b)
    (third : AreWoken Nowhere moves.received watchpoint.by_receiving.items b c) (fourth : AreWoken Nowhere moves.updated watchpoint.by_updating.items c d) where
  unwoken : (q : ℕ) → slice_get d q ≡ Some false → (slice_get old q ≡ Some false) × IsUnwoken watchpoint moves blocked q
  unwoken q is =
      let z = fourth.still q is in
      let y = third.still q z.0 in
      let x = second.still q y.0 in
      let w = first.still q x.0 in
      (w.0, record { taking = w.1; freeing = x.1; receiving = y.1; updating = z.1 })

  -- what stays asleep: nothing moved, and it may sleep
  fell_asleep : (may some : Bool) → (not may || some) ≡ false → (some ≡ false) × (may ≡ true)
  fell_asleep true some is = (is, refl)
  fell_asleep false some is = absurd (false≢true (sym is))

  pub settled_by : (awake : Bool) (new : List Bool) → awake ≡ (not may_sleep || has_moved moves) → new ≡ set d place awake → IsSettledAt watchpoint place moves may_sleep blocked old new
  settled_by awake new is made = record {
    all = ap (length {A = Bool}) made ∙ (length-set d place awake ∙ (fourth.all ∙ (third.all ∙ (second.all ∙ first.all))));
    still = λ q asleep. go q (placed d place q awake false (ap (λ (flags : List Bool). slice_get flags q) (sym made) ∙ asleep));
  }
    where
      go : (q : ℕ) → ((q ≡ place) × (awake ≡ false)) ⊎ ((q ≡ place → ⊥) × (slice_get d q ≡ Some false)) → ((q ≡ place) × (has_moved moves ≡ false) × (may_sleep ≡ true)) ⊎ ((q ≡ place → ⊥) × (slice_get old q ≡ Some false) × IsUnwoken watchpoint moves blocked q)
      go q (inl own) = let both = fell_asleep may_sleep (has_moved moves) (sym is ∙ own.1) in inl (own.0, both.0, both.1)
      go q (inr was) = let before = unwoken q was.1 in inr (was.0, before.0, before.1)

-- what is marked at another place was so before
pub marked_before : (old new : List Bool) (place : ℕ) (mark : Bool) (q : ℕ) → new ≡ set old place mark → (q ≡ place → ⊥) → slice_get new q ≡ Some false → slice_get old q ≡ Some false
marked_before old new place mark q made other is = by (placed old place q mark false (ap (λ (flags : List Bool). slice_get flags q) (sym made) ∙ is))
  where
    by : ((q ≡ place) × (mark ≡ false)) ⊎ ((q ≡ place → ⊥) × (slice_get old q ≡ Some false)) → slice_get old q ≡ Some false
    by (inl own) = absurd (other own.0)
    by (inr was) = was.1

-- and at the place itself
pub marked_here : (old new : List Bool) (place : ℕ) (mark : Bool) → new ≡ set old place mark → slice_get new place ≡ Some false → mark ≡ false
marked_here old new place mark made is = by (placed old place place mark false (ap (λ (flags : List Bool). slice_get flags place) (sym made) ∙ is))
  where
    by : ((place ≡ place) × (mark ≡ false)) ⊎ ((place ≡ place → ⊥) × (slice_get old place ≡ Some false)) → mark ≡ false
    by (inl own) = own.1
    by (inr other) = absurd (other.0 refl)

-- ---- all awake

filled_none : (n : ℕ) (j : ℕ) → slice_get (replicate n true) j ≡ Some false → ⊥
filled_none n j is =
    let less = slice_get_within (replicate n true) j false is in
    let long = length-replicate n true in
    false≢true (sym (get_or_from_slice_get (replicate n true) j false false is) ∙ get_or-replicate n j true false (omega (arith, less, long)))

pub all_filled : (n : ℕ) (flags : List Bool) → flags ≡ replicate n true → length flags ≡ n
all_filled n flags is = ap (length {A = Bool}) is ∙ length-replicate n true

pub none_filled : (n : ℕ) (flags : List Bool) → flags ≡ replicate n true → (j : ℕ) → slice_get flags j ≡ Some false → ⊥
none_filled n flags is j at = filled_none n j (ap (λ (bs : List Bool). slice_get bs j) (sym is) ∙ at)

mapped_none : (watchpoints : List Watchpoint) (j : ℕ) → slice_get (map (λ (watchpoint : Watchpoint). true) watchpoints) j ≡ Some false → ⊥
mapped_none [] j is = absurd cc
mapped_none (watchpoint ∷ watchpoints) zero is = false≢true (sym (same_Some true false is))
mapped_none (watchpoint ∷ watchpoints) (suc j) is = mapped_none watchpoints j is

pub all_mapped : (watchpoints : List Watchpoint) (flags : List Bool) → flags ≡ map (λ (watchpoint : Watchpoint). true) watchpoints → length flags ≡ length watchpoints
all_mapped watchpoints flags is = ap (length {A = Bool}) is ∙ length-map watchpoints (λ (watchpoint : Watchpoint). true)

pub none_mapped : (watchpoints : List Watchpoint) (flags : List Bool) → flags ≡ map (λ (watchpoint : Watchpoint). true) watchpoints → (j : ℕ) → slice_get flags j ≡ Some false → ⊥
none_mapped watchpoints flags is j at = mapped_none watchpoints j (ap (λ (bs : List Bool). slice_get bs j) (sym is) ∙ at)
