-- Of two packets one is consumed first: what an entry more leaves of that.
use Rattle.std.proofs.Common.{◌≡◌, ℕ, ◌+◌, ◌≤◌, Bool, true, false, ◌&&◌, ◌||◌, cond, not, List, [], ◌∷◌, ◌++◌, refl, subst, arith}
use Rattle.std.proofs.lemmas.List.Sums.{sum_by-cons}
use Rattle.domain.specs.declared.entry.Entry.{Entry}
use Rattle.domain.specs.Consumed.{consumes, is_in_order, times_consumed}

-- 1 if it is so
abbrev one_if : Bool → ℕ
one_if b = cond b 1 0

times_more : (n : ℕ) (x : Entry) (xs : List Entry) → times_consumed n (x ∷ xs) ≡ one_if (consumes n x) + times_consumed n xs
times_more n x xs = sum_by-cons (λ (y : Entry). one_if (consumes n y)) x xs

-- the second isn't consumed, or the first was
last_one : (n_is m_is : Bool) (times : ℕ) → times ≡ 0 → (m_is ≡ true → n_is ≡ false → 1 ≤ times) → n_is || (not m_is && true) ≡ true
last_one true m_is times none needs = refl
last_one false false times none needs = refl
last_one false true times none needs = absurd (let some = needs refl refl in omega (arith, some, none))

-- one entry, before those that are in order with one more
one_before : (n_is m_is rest more : Bool) (times later : ℕ) (Needs : ℕ → Type 0) → times ≡ one_if n_is + later → n_is || (not m_is && rest) ≡ true → Needs times
    → (rest ≡ true → Needs later → more ≡ true) → n_is || (not m_is && more) ≡ true
one_before true m_is rest more times later Needs count is needs goes = refl
one_before false true rest more times later Needs count is needs goes = absurd cc
one_before false false rest more times later Needs count is needs goes = goes is (subst Needs (omega (arith, count)) needs)

-- those stay in order when an entry joins them that doesn't consume the second before the first
pub in_order_after : (n m : ℕ) (journal : List Entry) (entry : Entry) → is_in_order n m journal ≡ true
    → (consumes m entry ≡ true → consumes n entry ≡ false → 1 ≤ times_consumed n journal) → is_in_order n m (journal ++ entry ∷ []) ≡ true
in_order_after n m [] entry is needs = last_one (consumes n entry) (consumes m entry) (times_consumed n []) refl needs
in_order_after n m (x ∷ xs) entry is needs =
    one_before (consumes n x) (consumes m x) (is_in_order n m xs) (is_in_order n m (xs ++ entry ∷ [])) (times_consumed n (x ∷ xs)) (times_consumed n xs)
    (λ (k : ℕ). consumes m entry ≡ true → consumes n entry ≡ false → 1 ≤ k) (times_more n x xs) is needs (in_order_after n m xs entry)

none_before : (n_is m_is rest : Bool) (times later : ℕ) → times ≡ one_if m_is + later → times ≡ 0 → (later ≡ 0 → rest ≡ true) → n_is || (not m_is && rest) ≡ true
none_before true m_is rest times later count none goes = refl
none_before false true rest times later count none goes = absurd (omega (arith, count, none))
none_before false false rest times later count none goes = goes (omega (arith, count, none))

-- where no entry consumed the second
pub in_order_new : (n m : ℕ) (journal : List Entry) → times_consumed m journal ≡ 0 → is_in_order n m journal ≡ true
in_order_new n m [] none = refl
in_order_new n m (x ∷ xs) none =
    none_before (consumes n x) (consumes m x) (is_in_order n m xs) (times_consumed m (x ∷ xs)) (times_consumed m xs) (times_more m x xs) none (in_order_new n m xs)
