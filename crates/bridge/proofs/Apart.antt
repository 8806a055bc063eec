-- Ports that are apart have a target below one of them at most.
use Rattle.std.proofs.Common.{◌≡◌, ℕ, ◌+◌, ◌≤◌, ◌<◌, zero, suc, Bool, true, false, cond, List, [], ◌∷◌, length, slice_index_or, Option, Some, None, refl, sym, ◌∙◌, arith}
use Rattle.std.specs.Prelude.{◌==◌, ◌&&◌, not, nat_le, count_by}
use Rattle.std.specs.List.{list_all, find}
use Rattle.std.proofs.lemmas.List.Sums.{sum_by-cons, AllPass-from_list_all}
use Rattle.std.proofs.lemmas.Bool.{eqb-true, eq-eqb, leb-true, le-leb, and_parts, cond-true, false≢true}
use Rattle.fab_types.specs.Id.{bus_of}
use Rattle.platform.specs.declared.parts.DownstreamPort.{DownstreamPort}
use Rattle.layout.specs.Laws.{each_pair, are_apart}
use Rattle.platform.specs.Owners.{holds_bus, holds_address}
use Rattle.platform.specs.Tree.{is_on_bus}
use Rattle.platform.specs.Tree.{port_at}
use Rattle.bridge.specs.declared.target.Target.{Target}
use Rattle.bridge.specs.declared.target.Target.TheVariants.{Bus, Address}
use Rattle.bridge.specs.Routes.{is_holder, holder_on}

not-all : (a b c : Bool) → not (a && b && c) ≡ true → a ≡ true → b ≡ true → c ≡ true → ⊥
not-all true true true h p q r = false≢true h
not-all true true false h p q r = false≢true r
not-all true false c h p q r = false≢true q
not-all false b c h p q r = false≢true p

not-both : (b : Bool) → not b ≡ true → b ≡ true → ⊥
not-both true h p = false≢true h
not-both false h p = false≢true p

-- of two ranges of a switch's ports that share a number, neither ends before the other begins
meeting : (one other bus low high low' high' n : ℕ) → not ((one == other) && nat_le low high' && nat_le low' high) ≡ true
    → (one == bus) ≡ true → (other == bus) ≡ true → (nat_le low n && nat_le n high) ≡ true → (nat_le low' n && nat_le n high') ≡ true → ⊥
meeting one other bus low high low' high' n apart here there p q =
    let p' = and_parts (nat_le low n) (nat_le n high) p in
    let q' = and_parts (nat_le low' n) (nat_le n high') q in
    let a : low ≤ n = leb-true low n p'.0 in
    let b : n ≤ high = leb-true n high p'.1 in
    let c : low' ≤ n = leb-true low' n q'.0 in
    let d : n ≤ high' = leb-true n high' q'.1 in
    not-all (one == other) (nat_le low high') (nat_le low' high) apart
    (eq-eqb one other (eqb-true one bus here ∙ sym (eqb-true other bus there)))
    (le-leb low high' (omega arith)) (le-leb low' high (omega arith))

-- two ports that are apart don't both have the target below
holder-clash : (bus : ℕ) (target : Option Target) (one other : DownstreamPort) → are_apart one other ≡ true → is_holder bus target one ≡ true → is_holder bus target other ≡ true → ⊥
holder-clash bus None one other apart p q = false≢true (and_parts _ false p).1
holder-clash bus (Some (Bus n)) one other apart p q =
    let apart' = and_parts _ _ (and_parts _ _ apart).0 in
    let p' = and_parts (is_on_bus bus one) (holds_bus one n) p in
    let q' = and_parts (is_on_bus bus other) (holds_bus other n) q in
    meeting (bus_of one.id) (bus_of other.id) bus one.secondary one.subordinate other.secondary other.subordinate n apart'.1 p'.0 q'.0 p'.1 q'.1
holder-clash bus (Some (Address n)) one other apart p q =
    let apart' = and_parts _ _ apart in
    let p' = and_parts (is_on_bus bus one) (holds_address one n) p in
    let q' = and_parts (is_on_bus bus other) (holds_address other n) q in
    meeting (bus_of one.id) (bus_of other.id) bus one.base one.limit other.base other.limit n apart'.1 p'.0 q'.0 p'.1 q'.1

-- two elements that are apart don't both pass
abbrev pub Clash : {X : Type 0} → (X → X → Bool) → (X → Bool) → Type 0
Clash {X} r p = (x y : X) → r x y ≡ true → p x ≡ true → p y ≡ true → ⊥

none-first : (b : Bool) (n : ℕ) → (b ≡ true → ⊥) → n ≡ 0 → cond b 1 0 + n ≡ 0
none-first true n never rest = absurd (never refl)
none-first false n never rest = omega arith

-- none passes beside one that passes and is apart from all
none-beside : {X : Type 0} (r : X → X → Bool) (p : X → Bool) (x : X) (xs : List X) → Clash r p → p x ≡ true → list_all (r x) xs ≡ true → count_by p xs ≡ 0
none-beside r p x [] clash here apart = refl
none-beside r p x (y ∷ ys) clash here apart =
    let apart' = and_parts (r x y) (list_all (r x) ys) apart in
    sum_by-cons (λ z. cond (p z) 1 0) y ys ∙ none-first (p y) (count_by p ys) (clash x y apart'.0 here) (none-beside r p x ys clash here apart'.1)

one-first : (b : Bool) (n : ℕ) → n ≤ 1 → (b ≡ true → n ≡ 0) → cond b 1 0 + n ≤ 1
one-first true n rest none = let e : n ≡ 0 = none refl in omega arith
one-first false n rest none = omega arith

one-at-most : {X : Type 0} (r : X → X → Bool) (p : X → Bool) (xs : List X) → Clash r p → each_pair r xs ≡ true → count_by p xs ≤ 1
one-at-most r p [] clash apart = omega arith
one-at-most r p (x ∷ xs) clash apart =
    let apart' = and_parts (list_all (r x) xs) (each_pair r xs) apart in
    rw (sum_by-cons (λ z. cond (p z) 1 0) x xs) (one-first (p x) (count_by p xs) (one-at-most r p xs clash apart'.1) (λ here. none-beside r p x xs clash here apart'.0))

-- a target is below one port of a switch at most
pub holders-once : (ports : List DownstreamPort) (bus : ℕ) (target : Option Target) → each_pair are_apart ports ≡ true → count_by (is_holder bus target) ports ≤ 1
holders-once ports bus target apart = one-at-most are_apart (is_holder bus target) ports (holder-clash bus target) apart

found-first : {X : Type 0} (b : Bool) (x y : X) (further : Option X) → (b ≡ true → ⊥) → further ≡ Some y → cond b (Some x) further ≡ Some y
found-first true x y further never rest = absurd (never refl)
found-first false x y further never rest = rest

-- an element that passes is the one that is found
found-alone : {X : Type 0} (r : X → X → Bool) (p : X → Bool) (xs : List X) → Clash r p → each_pair r xs ≡ true
    → (k : ℕ) (d : X) → k < length xs → p (slice_index_or xs k d) ≡ true → find p xs ≡ Some (slice_index_or xs k d)
found-alone r p [] clash apart k d within passes = absurd (omega arith)
found-alone r p (x ∷ xs) clash apart zero d within passes = cond-true (p x) (Some x) (find p xs) passes
found-alone r p (x ∷ xs) clash apart (suc k) d within passes =
    let apart' = and_parts (list_all (r x) xs) (each_pair r xs) apart in
    let short : k < length xs = omega arith in
    found-first (p x) x (slice_index_or xs k d) (find p xs)
    (λ here. clash x (slice_index_or xs k d) (AllPass-from_list_all (r x) xs apart'.0 k d short) here passes)
    (found-alone r p xs clash apart'.1 k d short passes)

-- two ports that are apart have different IDs
id-clash : (id : ℕ) → Clash are_apart (λ port. port.id == id)
id-clash id one other apart p q =
    let apart' = and_parts _ _ (and_parts _ _ apart).0 in
    let same : (one.id == other.id) ≡ true = eq-eqb one.id other.id (eqb-true one.id id p ∙ sym (eqb-true other.id id q)) in
    not-both (one.id == other.id) apart'.0 same

-- the port that has the target below is the one that is found
pub holder-found : (ports : List DownstreamPort) (bus : ℕ) (target : Option Target) → each_pair are_apart ports ≡ true
    → (k : ℕ) (d : DownstreamPort) → k < length ports → is_holder bus target (slice_index_or ports k d) ≡ true → holder_on ports bus target ≡ Some (slice_index_or ports k d)
holder-found ports bus target apart k d within holder = found-alone are_apart (is_holder bus target) ports (holder-clash bus target) apart k d within holder

-- a port is found by its ID
pub port-found : (ports : List DownstreamPort) (id : ℕ) → each_pair are_apart ports ≡ true
    → (k : ℕ) (d : DownstreamPort) → k < length ports → ((slice_index_or ports k d).id == id) ≡ true → port_at ports id ≡ Some (slice_index_or ports k d)
port-found ports id apart k d within is = found-alone are_apart (λ port. port.id == id) ports (id-clash id) apart k d within is
