-- Numbers are crossed off, one after the other.
use Rattle.std.proofs.Common.{◌≡◌, ◌≢◌, ℕ, zero, suc, ◌+◌, ◌<◌, ◌==◌, Bool, true, false, cond, List, [], ◌∷◌, length, get_or, take, map, Option, Some, None, refl, sym, ap, ◌∙◌, subst, arith}
use Rattle.std.specs.Prelude.{◌&&◌, count_by, is_some, not}
use Rattle.std.specs.List.{list_any}
use Rattle.std.proofs.lemmas.Bool.{eq-eqb, false≢true}
use Rattle.std.proofs.lemmas.List.Sums.{sum_by-cons, sum_by-take-le, sum_by_more}
use Rattle.domain.specs.Consumed.{times_waiting}
use Rattle.domain_state.specs.State.{item_at}
use Rattle.request_handling.specs.Emissions.{Emission}
use Rattle.thread_totals.specs.Crossing.{AreCrossedOff, all_left, times_left}
use Rattle.thread_totals.specs.Named.{is_made_by, is_named}
use Rattle.thread_totals.specs.declared.packet_name.PacketName.{PacketName}

abbrev one_if : Bool → ℕ
one_if b = cond b 1 0

-- one packet more, whose number was not to be crossed off
module _ (domain : ℕ) (names : List PacketName) (i : ℕ) (name : PacketName) (lt : i < length names) (at : name ≡ get_or names i name) where
  more : (test : PacketName → Bool) (b : Bool) → test name ≡ b → count_by test (take (i + 1) names) ≡ count_by test (take i names) + one_if b
  more test b is =
      sum_by_more (λ (n : PacketName). one_if (test n)) names i name lt
      ∙ ap (λ (n : PacketName). count_by test (take i names) + one_if (test n)) (sym at)
      ∙ ap (λ (c : Bool). count_by test (take i names) + one_if c) is

  own : (n : ℕ) (b : Bool) → (name.domain == domain) ≡ true → (name.number == n) ≡ b → is_named domain n name ≡ b
  own n b is same = ap (λ (c : Bool). c && (name.number == n)) is ∙ same

  pub crossed_twice : (old mid : List Bool) → (name.domain == domain) ≡ true → get_or mid name.number false ≡ false → AreCrossedOff domain (take i names) old mid
      → (n : ℕ) × (times_left old n < count_by (is_named domain n) names)
  crossed_twice old mid is was so_far = (
    name.number,
    let e = so_far.each name.number in
        let m = more (is_named domain name.number) true (own name.number true is (eq-eqb name.number name.number refl)) in
        let w : times_left mid name.number ≡ 0 = ap one_if was in
        let l = sum_by-take-le (λ (n : PacketName). one_if (is_named domain name.number n)) names (i + 1) in
        omega (arith, e, m, w, l),
  )

-- ---- none is left

none_left : (flying : List Bool) → list_any (λ b. b) flying ≡ false → (n : ℕ) → times_left flying n ≡ 0
none_left [] none n = refl
none_left (true ∷ flying) none n = absurd (false≢true (sym none))
none_left (false ∷ flying) none zero = refl
none_left (false ∷ flying) none (suc n) = none_left flying none n

none_in_all : (flying : List Bool) → list_any (λ b. b) flying ≡ false → all_left flying ≡ 0
none_in_all [] none = refl
none_in_all (true ∷ flying) none = absurd (false≢true (sym none))
none_in_all (false ∷ flying) none = let s = sum_by-cons one_if false flying in let r = none_in_all flying none in omega (arith, s, r)

some_left : (flying : List Bool) → list_any (λ b. b) flying ≡ true → (n : ℕ) × (times_left flying n ≡ 1)
some_left [] some = absurd (false≢true some)
some_left (true ∷ flying) some = (0, refl)
some_left (false ∷ flying) some = let r = some_left flying some in (suc r.0, r.1)

-- ---- what is in flight

pub left_waits : (flight : List (Option Emission)) (n : ℕ) → times_left (map is_some flight) n ≡ times_waiting (item_at flight n)
left_waits [] n = refl
left_waits (None ∷ flight) zero = refl
left_waits (Some e ∷ flight) zero = refl
left_waits (o ∷ flight) (suc n) = left_waits flight n

pub all_wait : (flight : List (Option Emission)) → all_left (map is_some flight) ≡ count_by is_some flight
all_wait [] = refl
all_wait (o ∷ flight) =
    sum_by-cons one_if (is_some o) (map is_some flight) ∙ ap (λ (n : ℕ). one_if (is_some o) + n) (all_wait flight)
    ∙ sym (sum_by-cons (λ (x : Option Emission). one_if (is_some x)) o flight)

module _ (domain : ℕ) (names : List PacketName) (flight : List (Option Emission)) where
  pub named_once : (new : List Bool) → AreCrossedOff domain names (map is_some flight) new → list_any (λ b. b) new ≡ false → (n : ℕ) → count_by (is_named domain n) names ≡ times_waiting (item_at flight n)
  named_once new all none n = let e = all.each n in let z = none_left new none n in let w = left_waits flight n in omega (arith, e, z, w)

  pub named_all : (new : List Bool) → AreCrossedOff domain names (map is_some flight) new → list_any (λ b. b) new ≡ false → count_by (is_made_by domain) names ≡ count_by is_some flight
  named_all new all none = let e = all.all in let z = none_in_all new none in let w = all_wait flight in omega (arith, e, z, w)

  pub not_all : (new : List Bool) → AreCrossedOff domain names (map is_some flight) new → list_any (λ b. b) new ≡ true → ((n : ℕ) → count_by (is_named domain n) names ≡ times_waiting (item_at flight n)) → ⊥
  not_all new all some once =
      let l = some_left new some in let e = all.each l.0 in let o = once l.0 in let w = left_waits flight l.0 in let s = l.1 in absurd (omega (arith, e, s, w, o))

  pub not_twice : (n : ℕ) → times_left (map is_some flight) n < count_by (is_named domain n) names → ((n : ℕ) → count_by (is_named domain n) names ≡ times_waiting (item_at flight n)) → ⊥
  not_twice n more once = let o = once n in let w = left_waits flight n in absurd (omega (arith, more, o, w))

-- what crossing off decides of the packets of a domain with this in flight
module _ (domain : ℕ) (names : List PacketName) (flight : List (Option Emission)) (old : List Bool) (is : old ≡ map is_some flight) where
  pub decided_twice : ((n : ℕ) × (times_left old n < count_by (is_named domain n) names)) → ((n : ℕ) → count_by (is_named domain n) names ≡ times_waiting (item_at flight n)) → ⊥
  decided_twice some once = not_twice domain names flight some.0 (subst (λ (l : List Bool). times_left l some.0 < count_by (is_named domain some.0) names) is some.1) once

  module _ (new : List Bool) (all : AreCrossedOff domain names old new) where
    crossed : AreCrossedOff domain names (map is_some flight) new
    crossed = subst (λ (l : List Bool). AreCrossedOff domain names l new) is all

    pub decided : (left : Bool) → left ≡ list_any (λ b. b) new
        → (not left ≡ true → (n : ℕ) → count_by (is_named domain n) names ≡ times_waiting (item_at flight n))
        × (((n : ℕ) → count_by (is_named domain n) names ≡ times_waiting (item_at flight n)) → not left ≡ true)
    decided true any = (λ wrong. absurd (false≢true wrong), λ once. absurd (not_all domain names flight new crossed (sym any) once))
    decided false any = (λ none. named_once domain names flight new crossed (sym any), λ once. refl)

    pub decided_all : (left : Bool) → left ≡ list_any (λ b. b) new → not left ≡ true → count_by (is_made_by domain) names ≡ count_by is_some flight
    decided_all true any wrong = absurd (false≢true wrong)
    decided_all false any none = named_all domain names flight new crossed (sym any)
