-- Sums over lists in which one element changes, and of queues that one packet leaves; and tests that fewer elements pass.
use Rattle.std.proofs.Common.{◌≡◌, ℕ, zero, suc, ◌+◌, ◌<◌, ◌≤◌, ◌⊎◌, inl, inr, Bool, true, false, cond, List, [], ◌∷◌, ◌++◌, length, get_or, set, Some, refl, ap, ◌∙◌, arith}
use Rattle.std.specs.Prelude.{Contains, count_by}
use Rattle.std.specs.List.{sum_by}
use Rattle.std.proofs.lemmas.List.Sums.{sum_by-append, sum_by-cons}
use Rattle.frame_log.specs.Descriptor.{Descriptor}
use Rattle.ordering.proofs.Leaving.{taken_leaves}
use Rattle.lane.specs.Lanes.{Class, class_of, eligible}
use Rattle.topology.proofs.Members.{cases_contained, nothing_contained}
use Rattle.fabric_core.specs.MovesLeft.{sum_from}

-- one element changes
pub sum_from-set : {X : Type 0} (weigh : ℕ → X → ℕ) (xs : List X) (place i n : ℕ) (d y : X) → n ≡ place + i → i < length xs → sum_from weigh place (set xs i y) + weigh n (get_or xs i d) ≡ sum_from weigh place xs + weigh n y
sum_from-set weigh [] place i n d y at less = absurd (omega (arith, less))
sum_from-set weigh (x ∷ xs) place zero n d y at less =
    let here : n ≡ place = omega (arith, at) in
    let old : weigh n x ≡ weigh place x = ap (λ (k : ℕ). weigh k x) here in
    let new : weigh n y ≡ weigh place y = ap (λ (k : ℕ). weigh k y) here in
    omega (arith, old, new)
sum_from-set weigh (x ∷ xs) place (suc i) n d y at less = let rest = sum_from-set weigh xs (place + 1) i n d y (omega (arith, at)) (omega (arith, less)) in omega (arith, rest)

-- a packet leaves a queue
pub sum_taken : (weigh : Descriptor → ℕ) (class : Class) (waiting left : List Descriptor) (frame : Descriptor) → eligible class waiting ≡ Some (frame, left) → sum_by weigh left + weigh frame ≡ sum_by weigh waiting
sum_taken weigh class waiting left frame e =
    let l = taken_leaves class_of class waiting frame left e in
    let old : sum_by weigh waiting ≡ sum_by weigh (l.older ++ frame ∷ l.newer) = ap (sum_by weigh) l.queue in
    let new : sum_by weigh left ≡ sum_by weigh (l.older ++ l.newer) = ap (sum_by weigh) l.is_left in
    omega (arith, old, new, sum_by-append weigh l.older (frame ∷ l.newer), sum_by-append weigh l.older l.newer, sum_by-cons weigh frame l.newer)

-- ---- tests

one_under : (a b : Bool) → (a ≡ true → b ≡ true) → cond a 1 0 ≤ cond b 1 0
one_under true true h = omega arith
one_under true false h = let clash : false ≡ true = h refl in cc
one_under false true h = omega arith
one_under false false h = omega arith

module _ {X : Type 0} (p q : X → Bool) (also : (x : X) → p x ≡ true → q x ≡ true) where
  count_under : (xs : List X) → count_by p xs ≤ count_by q xs
  count_under [] = omega arith
  count_under (x ∷ xs) =
      let one = one_under (p x) (q x) (also x) in
      let rest = count_under xs in
      omega (arith, one, rest, sum_by-cons (λ (y : X). cond (p y) 1 0) x xs, sum_by-cons (λ (y : X). cond (q y) 1 0) x xs)

  -- one element passes the second alone
  pub count_less : (xs : List X) (x : X) → Contains xs x → p x ≡ false → q x ≡ true → count_by p xs < count_by q xs
  count_less [] x within fails holds = absurd (nothing_contained x within)
  count_less (y ∷ ys) x within fails holds = go (cases_contained y x ys within) (λ rest. count_less ys x rest fails holds)
    where
      go : (y ≡ x) ⊎ Contains ys x → (Contains ys x → count_by p ys < count_by q ys) → count_by p (y ∷ ys) < count_by q (y ∷ ys)
      go (inl same) further =
          let first : ◌≡◌ {A = ℕ} (cond (p y) 1 0) 0 = ap (λ (b : Bool). cond {A = ℕ} b 1 0) (ap p same ∙ fails) in
          let second : ◌≡◌ {A = ℕ} (cond (q y) 1 0) 1 = ap (λ (b : Bool). cond {A = ℕ} b 1 0) (ap q same ∙ holds) in
          let rest = count_under ys in
          omega (arith, first, second, rest, sum_by-cons (λ (z : X). cond (p z) 1 0) y ys, sum_by-cons (λ (z : X). cond (q z) 1 0) y ys)
      go (inr behind) further =
          let one = one_under (p y) (q y) (also y) in
          let rest = further behind in
          omega (arith, one, rest, sum_by-cons (λ (z : X). cond (p z) 1 0) y ys, sum_by-cons (λ (z : X). cond (q z) 1 0) y ys)
