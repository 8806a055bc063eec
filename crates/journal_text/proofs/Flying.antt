-- The numbers that are in flight, one after another.
use Rattle.std.proofs.Common.{◌≡◌, Bor, ℕ, zero, suc, ◌+◌, ◌<◌, List, [], ◌∷◌, ◌++◌, length, take, Option, Some, None, refl, ap, ◌∙◌, arith, add-one}
use Rattle.std.specs.Prelude.{is_some, option_map, true, false}
use Rattle.std.specs.Option.{option_copied}
use Rattle.std.proofs.lemmas.List.{append-nil}
use Rattle.domain_state.specs.State.{item_at}
use Rattle.request_handling.specs.Emissions.{Emission}
use Rattle.journal_text.specs.Journals.{numbers_from}

abbrev Flight : Type 0
Flight = List (Option Emission)

-- the number of an item, if there is one
abbrev numbered : ℕ → Option Emission → List ℕ
numbered n None = []
numbered n (Some e) = n ∷ []

alone : (first : ℕ) (o : Option Emission) → numbers_from first (o ∷ []) ≡ numbered first o
alone first None = refl
alone first (Some e) = refl

-- with the item of one number more
more : (first n : ℕ) (flight : Flight) → n < length flight → numbers_from first (take (suc n) flight) ≡ numbers_from first (take n flight) ++ numbered (first + n) (item_at flight n)
more first n [] lt = absurd (omega arith)
more first zero (o ∷ flight) lt =
    let same : first ≡ first + 0 = omega arith in
    alone first o ∙ ap (λ (k : ℕ). numbered k o) same
more first (suc n) (None ∷ flight) lt =
    let same : first + 1 + n ≡ first + suc n = omega arith in
    more (first + 1) n flight (omega arith) ∙ ap (λ (k : ℕ). numbers_from (first + 1) (take n flight) ++ numbered k (item_at flight n)) same
more first (suc n) (Some e ∷ flight) lt =
    let same : first + 1 + n ≡ first + suc n = omega arith in
    ap (λ (ns : List ℕ). first ∷ ns) (more (first + 1) n flight (omega arith) ∙ ap (λ (k : ℕ). numbers_from (first + 1) (take n flight) ++ numbered k (item_at flight n)) same)

with : (n : ℕ) (flight : Flight) (o : Option Emission) (ns : List ℕ) → n < length flight → item_at flight n ≡ o → numbers_from 0 (take n flight) ≡ ns → numbers_from 0 (take (n + 1) flight) ≡ ns ++ numbered n o
with n flight o ns lt is before =
    let one : n + 1 ≡ suc n = add-one n in
    let zero_more : 0 + n ≡ n = omega arith in
    ap (λ (k : ℕ). numbers_from 0 (take k flight)) one
    ∙ (more 0 n flight lt ∙ (ap (λ (ms : List ℕ). ms ++ numbered (0 + n) (item_at flight n)) before ∙ (ap (λ (k : ℕ). ns ++ numbered k (item_at flight n)) zero_more ∙ ap (λ (p : Option Emission). ns ++ numbered n p) is)))

-- a number that is in flight stands behind those before it
pub with_number : (n : ℕ) (flight : Flight) (ns : List ℕ) → n < length flight → is_some (item_at flight n) ≡ true → numbers_from 0 (take n flight) ≡ ns → numbers_from 0 (take (n + 1) flight) ≡ ns ++ n ∷ []
with_number n flight ns lt is before = go (item_at flight n) refl is
  where
    go : (o : Option Emission) → item_at flight n ≡ o → is_some o ≡ true → numbers_from 0 (take (n + 1) flight) ≡ ns ++ n ∷ []
    go None e h = absurd cc
    go (Some x) e h = with n flight (Some x) ns lt e before

-- and one that is not adds nothing
pub without_number : (n : ℕ) (flight : Flight) (ns : List ℕ) → n < length flight → is_some (item_at flight n) ≡ false → numbers_from 0 (take n flight) ≡ ns → numbers_from 0 (take (n + 1) flight) ≡ ns
without_number n flight ns lt is before = go (item_at flight n) refl is
  where
    go : (o : Option Emission) → item_at flight n ≡ o → is_some o ≡ false → numbers_from 0 (take (n + 1) flight) ≡ ns
    go None e h = with n flight None ns lt e before ∙ append-nil ns
    go (Some x) e h = absurd cc

-- what is lent of a number that is in flight
pub lent_is_some : (lent : Option (Bor (List ℕ))) (o : Option Emission) → option_copied lent ≡ option_map (λ e. e.bytes) o → is_some lent ≡ is_some o
lent_is_some None None e = refl
lent_is_some None (Some x) e = absurd cc
lent_is_some (Some b) None e = absurd cc
lent_is_some (Some b) (Some x) e = refl
