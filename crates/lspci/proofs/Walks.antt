-- A walk of some entries looks at one, and then walks one less.
use Rattle.std.proofs.Common.{◌≡◌, ℕ, zero, suc, ◌<◌, ◌-◌, ◌==◌, cond, List, Some, None, refl, arith}
use Rattle.std.specs.Prelude.{option_and_then}
use Rattle.lspci.specs.Capabilities.{capability_from, entry_at, extended_entry_at, extended_from}

pub capability_none : (bytes : List ℕ) (id left offset : ℕ) → left ≡ 0 → capability_from bytes id left offset ≡ None
unfolding capability_from
capability_none bytes id zero offset e = refl
capability_none bytes id (suc left) offset e = absurd (omega arith)

pub capability_step : (bytes : List ℕ) (id left offset : ℕ) → 0 < left
    → capability_from bytes id left offset ≡ option_and_then (λ entry. cond (entry.id == id) (Some offset) (capability_from bytes id (left - 1) entry.next)) (entry_at bytes offset)
unfolding capability_from
capability_step bytes id zero offset h = absurd (omega arith)
capability_step bytes id (suc left) offset h = let e : suc left - 1 ≡ left = omega arith in rw e refl

pub extended_none : (bytes : List ℕ) (id left offset : ℕ) → left ≡ 0 → extended_from bytes id left offset ≡ None
unfolding extended_from
extended_none bytes id zero offset e = refl
extended_none bytes id (suc left) offset e = absurd (omega arith)

pub extended_step : (bytes : List ℕ) (id left offset : ℕ) → 0 < left
    → extended_from bytes id left offset ≡ option_and_then (λ entry. cond (entry.id == id) (Some offset) (extended_from bytes id (left - 1) entry.next)) (extended_entry_at bytes offset)
unfolding extended_from
extended_step bytes id zero offset h = absurd (omega arith)
extended_step bytes id (suc left) offset h = let e : suc left - 1 ≡ left = omega arith in rw e refl
