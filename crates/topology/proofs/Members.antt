-- Elements of lists: how tests find them.
use Rattle.std.proofs.Common.{◌≡◌, ℕ, zero, suc, ◌+◌, ◌<◌, ◌≤◌, ◌⊎◌, inl, inr, Bool, true, false, cond, List, [], ◌∷◌, ◌++◌, length, map, get_or, Option, Some, None, refl, sym, ap, ◌∙◌, arith, subst, lt-ltb}
use Rattle.std.specs.Prelude.{not, nat_lt, Contains, filter}
use Rattle.std.specs.List.{find, list_all, list_any, position, position_or_len}
use Rattle.std.proofs.lemmas.Bool.{cases_lt}
use Rattle.std.proofs.lemmas.Option.{same_Some}
use Rattle.std.proofs.lemmas.List.{get_or_default, get_or-map, length-map}
use Rattle.std.proofs.lemmas.List.Elements.{All-append, All-contains, All-contains_itself, All-filter, All-map, Contains-get_or, filter_passes}
use Rattle.std.proofs.lemmas.List.Folds.{Any-from_list_any, list_any_at}
use Rattle.std.proofs.lemmas.List.Sums.{AllPass-from_list_all, list_all-from_AllPass, fails_before_first, position_or_len_is}
use Rattle.layout.specs.Laws.{each_pair}
use Rattle.platform.proofs.Bools.{and-both, and-first, and-second}

-- ---- what a list has

pub here : {X : Type 0} (x : X) (xs : List X) → Contains (x ∷ xs) x
here x xs = (0, omega arith, refl)

pub later : {X : Type 0} (x y : X) (xs : List X) → Contains xs y → Contains (x ∷ xs) y
later x y xs h = let less = h.1 in (suc h.0, omega arith, h.2)

first_or_later : {X : Type 0} (x y : X) (xs : List X) (k : ℕ) → k < length (x ∷ xs) → get_or (x ∷ xs) k y ≡ y → (x ≡ y) ⊎ Contains xs y
first_or_later x y xs zero less is = inl is
first_or_later x y xs (suc k) less is = inr (k, omega arith, is)

pub cases_contained : {X : Type 0} (x y : X) (xs : List X) → Contains (x ∷ xs) y → (x ≡ y) ⊎ Contains xs y
cases_contained x y xs h = first_or_later x y xs h.0 h.1 h.2

pub nothing_contained : {X : Type 0} (x : X) → Contains [] x → ⊥
nothing_contained x h = let less = h.1 in omega arith

-- a test that all elements pass
pub passes : {X : Type 0} (p : X → Bool) (xs : List X) (x : X) → list_all p xs ≡ true → Contains xs x → p x ≡ true
passes p xs x h within = All-contains (λ y. p y ≡ true) xs x (AllPass-from_list_all p xs h) within

-- a test that an element passes
pub some_passes : {X : Type 0} (p : X → Bool) (xs : List X) (x : X) → Contains xs x → p x ≡ true → list_any p xs ≡ true
some_passes p xs x within h = list_any_at p xs within.0 x within.1 (ap p within.2 ∙ h)

pub passing : {X : Type 0} (p : X → Bool) (xs : List X) → list_any p xs ≡ true → (x : X) × Contains xs x × (p x ≡ true)
passing p xs h = let any = Any-from_list_any p xs h in (any.1, (any.0, any.2, any.3), any.4)

-- ---- map

pub mapped : {X Y : Type 0} (f : X → Y) (xs : List X) (x : X) → Contains xs x → Contains (map f xs) (f x)
mapped f xs x within = let less = within.1 in let long = length-map xs f in (within.0, omega arith, get_or-map f xs within.0 x (f x) less ∙ ap f within.2)

pub mapped_from : {X Y : Type 0} (f : X → Y) (xs : List X) (y : Y) → Contains (map f xs) y → (x : X) × Contains xs x × (f x ≡ y)
mapped_from f [] y within = absurd (nothing_contained y within)
mapped_from {X} f (x ∷ xs) y within = go (λ rest. mapped_from f xs y rest) (cases_contained (f x) y (map f xs) within)
  where
    go : (Contains (map f xs) y → (z : X) × Contains xs z × (f z ≡ y)) → (f x ≡ y) ⊎ Contains (map f xs) y → (z : X) × Contains (x ∷ xs) z × (f z ≡ y)
    go behind (inl is) = (x, here x xs, is)
    go behind (inr rest) = let at = behind rest in (at.0, later x at.0 xs at.1, at.2)

-- ---- filter

pub kept : {X : Type 0} (p : X → Bool) (xs : List X) (x : X) → Contains xs x → p x ≡ true → Contains (filter p xs) x
kept p [] x within h = absurd (nothing_contained x within)
kept {X} p (y ∷ ys) x within h = go (λ rest. kept p ys x rest h) (p y) refl (cases_contained y x ys within)
  where
    go : (Contains ys x → Contains (filter p ys) x) → (b : Bool) → b ≡ p y → (y ≡ x) ⊎ Contains ys x → Contains (cond b (y ∷ filter p ys) (filter p ys)) x
    go behind true e (inl is) = subst (λ z. Contains (y ∷ filter p ys) z) is (here y (filter p ys))
    go behind false e (inl is) = let fails : p x ≡ false = sym (ap p is) ∙ sym e in absurd cc
    go behind true e (inr rest) = later y x (filter p ys) (behind rest)
    go behind false e (inr rest) = behind rest

pub kept_from : {X : Type 0} (p : X → Bool) (xs : List X) (x : X) → Contains (filter p xs) x → Contains xs x × (p x ≡ true)
kept_from p xs x within = (
  All-contains (λ y. Contains xs y) (filter p xs) x (All-filter p (λ y. Contains xs y) xs (All-contains_itself xs)) within,
  All-contains (λ y. p y ≡ true) (filter p xs) x (filter_passes p xs) within,
)

-- ---- the first element that passes

pub found : {X : Type 0} (p : X → Bool) (xs : List X) (x : X) → find p xs ≡ Some x → Contains xs x × (p x ≡ true)
found p [] x e = absurd cc
found {X} p (y ∷ ys) x e = go (λ rest. found p ys x rest) (p y) refl e
  where
    go : (find p ys ≡ Some x → Contains ys x × (p x ≡ true)) → (b : Bool) → b ≡ p y → cond b (Some y) (find p ys) ≡ Some x → Contains (y ∷ ys) x × (p x ≡ true)
    go behind true is e = let same : y ≡ x = same_Some y x e in (subst (λ z. Contains (y ∷ ys) z) same (here y ys), sym (ap p same) ∙ sym is)
    go behind false is e = let rest = behind e in (later y x ys rest.0, rest.1)

pub missed : {X : Type 0} (p : X → Bool) (xs : List X) (x : X) → find p xs ≡ None → Contains xs x → p x ≡ true → ⊥
missed p [] x e within h = nothing_contained x within
missed p (y ∷ ys) x e within h = go (λ none rest. missed p ys x none rest h) (p y) refl e (cases_contained y x ys within)
  where
    go : (find p ys ≡ None → Contains ys x → ⊥) → (b : Bool) → b ≡ p y → cond b (Some y) (find p ys) ≡ None → (y ≡ x) ⊎ Contains ys x → ⊥
    go behind true is e place = absurd cc
    go behind false is e (inl same) = let fails : p x ≡ false = sym (ap p same) ∙ sym is in absurd cc
    go behind false is e (inr rest) = behind e rest

-- the one element that passes is found
pub found_alone : {X : Type 0} (p : X → Bool) (xs : List X) (x : X) → Contains xs x → p x ≡ true → ((y : X) → Contains xs y → p y ≡ true → y ≡ x) → find p xs ≡ Some x
found_alone {X} p xs x within h alone = go (find p xs) refl
  where
    go : (o : Option X) → find p xs ≡ o → o ≡ Some x
    go None e = absurd (missed p xs x e within h)
    go (Some y) e = let is = found p xs y e in ap Some (alone y is.0 is.1)

-- ---- pairs

pub pair_at : {X : Type 0} (r : X → X → Bool) (xs : List X) (i j : ℕ) (d : X) → each_pair r xs ≡ true → i < j → j < length xs → r (get_or xs i d) (get_or xs j d) ≡ true
pair_at r [] i j d h before less = absurd (omega arith)
pair_at r (x ∷ xs) i zero d h before less = absurd (omega arith)
pair_at r (x ∷ xs) zero (suc j) d h before less = AllPass-from_list_all (r x) xs (and-first (list_all (r x) xs) (each_pair r xs) h) j d (omega arith)
pair_at r (x ∷ xs) (suc i) (suc j) d h before less = pair_at r xs i j d (and-second (list_all (r x) xs) (each_pair r xs) h) (omega arith) (omega arith)

-- two elements are one, or fit in the one order or the other
pub paired : {X : Type 0} (r : X → X → Bool) (xs : List X) (x y : X) → each_pair r xs ≡ true → Contains xs x → Contains xs y → (x ≡ y) ⊎ ((r x y ≡ true) ⊎ (r y x ≡ true))
paired {X} r xs x y h one other = go (cases_lt one.0 other.0) (cases_lt other.0 one.0)
  where
    at_other : get_or xs other.0 x ≡ y
    at_other = get_or_default xs other.0 x y other.1 ∙ other.2

    go : (one.0 < other.0) ⊎ (other.0 ≤ one.0) → (other.0 < one.0) ⊎ (one.0 ≤ other.0) → (x ≡ y) ⊎ ((r x y ≡ true) ⊎ (r y x ≡ true))
    go (inl before) after = inr (inl (subst (λ z. r z y ≡ true) one.2 (subst (λ z. r (get_or xs one.0 x) z ≡ true) at_other (pair_at r xs one.0 other.0 x h before other.1))))
    go (inr not_before) (inl after) = inr (inr (subst (λ z. r z x ≡ true) at_other (subst (λ z. r (get_or xs other.0 x) z ≡ true) one.2 (pair_at r xs other.0 one.0 x h after one.1))))
    go (inr not_before) (inr not_after) =
        let same : one.0 ≡ other.0 = omega arith in
        inl (sym one.2 ∙ ap (λ n. get_or xs n x) same ∙ at_other)

all_kept : {X : Type 0} (p q : X → Bool) (xs : List X) → list_all q xs ≡ true → list_all q (filter p xs) ≡ true
all_kept p q xs h = list_all-from_AllPass q (filter p xs) (All-filter p (λ y. q y ≡ true) xs (AllPass-from_list_all q xs h))

pub pairs_kept : {X : Type 0} (p : X → Bool) (r : X → X → Bool) (xs : List X) → each_pair r xs ≡ true → each_pair r (filter p xs) ≡ true
pairs_kept p r [] h = refl
pairs_kept {X} p r (x ∷ xs) h = go (pairs_kept p r xs (and-second (list_all (r x) xs) (each_pair r xs) h)) (p x)
  where
    go : each_pair r (filter p xs) ≡ true → (b : Bool) → each_pair r (cond b (x ∷ filter p xs) (filter p xs)) ≡ true
    go rest true = and-both (list_all (r x) (filter p xs)) (each_pair r (filter p xs)) (all_kept p (r x) xs (and-first (list_all (r x) xs) (each_pair r xs) h)) rest
    go rest false = rest

pub pairs_appended : {X : Type 0} (r : X → X → Bool) (xs ys : List X) → each_pair r xs ≡ true → each_pair r ys ≡ true → ((x y : X) → Contains xs x → Contains ys y → r x y ≡ true) → each_pair r (xs ++ ys) ≡ true
pairs_appended r [] ys h k across = k
pairs_appended r (x ∷ xs) ys h k across =
    and-both (list_all (r x) (xs ++ ys)) (each_pair r (xs ++ ys))
    (list_all-from_AllPass (r x) (xs ++ ys) (All-append (λ y. r x y ≡ true) xs ys (AllPass-from_list_all (r x) xs (and-first (list_all (r x) xs) (each_pair r xs) h)) (λ n d less. across x (get_or ys n d) (here x xs) (Contains-get_or ys n d less))))
    (pairs_appended r xs ys (and-second (list_all (r x) xs) (each_pair r xs) h) k (λ y z within listed. across y z (later x y xs within) listed))

pub pairs_mapped : {X Y : Type 0} (f : X → Y) (r : X → X → Bool) (s : Y → Y → Bool) (xs : List X) → ((x y : X) → r x y ≡ true → s (f x) (f y) ≡ true) → each_pair r xs ≡ true → each_pair s (map f xs) ≡ true
pairs_mapped f r s [] fits h = refl
pairs_mapped f r s (x ∷ xs) fits h =
    and-both (list_all (s (f x)) (map f xs)) (each_pair s (map f xs))
    (list_all-from_AllPass (s (f x)) (map f xs) (All-map (λ y. s (f x) y ≡ true) f xs (λ n d less. fits x (get_or xs n d) (AllPass-from_list_all (r x) xs (and-first (list_all (r x) xs) (each_pair r xs) h) n d less))))
    (pairs_mapped f r s xs fits (and-second (list_all (r x) xs) (each_pair r xs) h))

-- ---- positions

pub position_is : {X : Type 0} (p : X → Bool) (xs : List X) (k : ℕ) (d : X) → k < length xs → p (get_or xs k d) ≡ true → ((j : ℕ) → j < k → p (get_or xs j d) ≡ false) → position p xs ≡ Some k
position_is p xs k d less h before =
    let at : position_or_len p xs ≡ k = position_or_len_is p xs k d (omega arith) before (λ _. h) in
    ap (λ (n : ℕ). cond {A = Option ℕ} (nat_lt n (length xs)) (Some n) None) at ∙ ap (λ (b : Bool). cond {A = Option ℕ} b (Some k) None) (lt-ltb k (length xs) less)

agree_on : {X : Type 0} (p q : X → Bool) (xs : List X) → ((x : X) → Contains xs x → p x ≡ q x) → position_or_len p xs ≡ position_or_len q xs
agree_on p q [] same = refl
agree_on p q (x ∷ xs) same =
    ap (λ (b : Bool). cond (not b) (1 + position_or_len p xs) 0) (same x (here x xs))
    ∙ ap (λ (n : ℕ). cond (not (q x)) (1 + n) 0) (agree_on p q xs (λ y within. same y (later x y xs within)))

-- tests that agree on the elements have one position
pub position_agrees : {X : Type 0} (p q : X → Bool) (xs : List X) → ((x : X) → Contains xs x → p x ≡ q x) → position p xs ≡ position q xs
position_agrees p q xs same = ap (λ (n : ℕ). cond {A = Option ℕ} (nat_lt n (length xs)) (Some n) None) (agree_on p q xs same)

-- an element that passes is found
pub listed : {X : Type 0} (p : X → Bool) (xs : List X) (k : ℕ) (d : X) → k < length xs → p (get_or xs k d) ≡ true → position p xs ≡ Some (position_or_len p xs)
listed {X} p xs k d less passes = go (cases_lt k (position_or_len p xs))
  where
    go : (k < position_or_len p xs) ⊎ (position_or_len p xs ≤ k) → position p xs ≡ Some (position_or_len p xs)
    go (inl before) = let fails : p (get_or xs k d) ≡ false = fails_before_first p xs k d before in absurd cc
    go (inr after) = let within : nat_lt (position_or_len p xs) (length xs) ≡ true = lt-ltb (position_or_len p xs) (length xs) (omega arith) in
        ap (λ (b : Bool). cond {A = Option ℕ} b (Some (position_or_len p xs)) None) within

pub any_found : {X : Type 0} (p : X → Bool) (xs : List X) → list_any p xs ≡ true → position p xs ≡ None → ⊥
any_found {X} p xs h none =
    let any = Any-from_list_any p xs h in
    let at = listed p xs any.0 any.1 any.2 (ap p any.3 ∙ any.4) in
    let clash : ◌≡◌ {A = Option ℕ} (Some (position_or_len p xs)) None = sym at ∙ none in
    cc
