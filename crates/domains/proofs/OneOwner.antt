-- Ports that lead to one bus have one owner: that of the port of the top switch that the bus is below.
use Rattle.std.proofs.Common.{◌≡◌, ℕ, zero, suc, ◌+◌, ◌*◌, ◌<◌, ◌≤◌, ◌==◌, Bool, true, false, cond, List, [], ◌∷◌, Option, Some, None, refl, sym, ap, ◌∙◌, subst, arith, slice_get, eqb-true, eq-eqb}
use Rattle.std.specs.Prelude.{◌&&◌, not, nat_le, nat_lt, option_and_then}
use Rattle.std.specs.List.{find, list_all, position_or_len}
use mathlib.Core.Logic.{◌⊎◌, inl, inr, ⊎_elim}
use Rattle.std.proofs.lemmas.Bool.{cases_lt, le-leb, leb-true, ltb-true}
use Rattle.std.proofs.lemmas.Option.{same_Some}
use Rattle.std.proofs.lemmas.List.Folds.{find_at}
use Rattle.fab_types.specs.Id.{bus_of}
use Rattle.platform.specs.declared.parts.Switch.{Switch}
use Rattle.platform.specs.declared.parts.DownstreamPort.{DownstreamPort}
use Rattle.layout.specs.Laws.{IsPlatform, are_apart, each_pair, is_hung, is_hung_below, is_hung_by, is_inside, is_nested, is_nested_on}
use Rattle.platform.specs.Platform.{Platform}
use Rattle.platform.specs.Tree.{is_on_bus}
use Rattle.platform.specs.Tree.{id_below, internal_bus, port_above, port_at, switch_on}
use Rattle.platform.proofs.Bools.{all-found, and-both, and-first, and-second}

-- ---- elements of a list

all_at : {X : Type 0} (p : X → Bool) (xs : List X) (i : ℕ) (x : X) → list_all p xs ≡ true → slice_get xs i ≡ Some x → p x ≡ true
all_at p [] i x all there = absurd cc
all_at p (y ∷ ys) zero x all there = let is : y ≡ x = cc in rw (← is) (and-first (p y) (list_all p ys) all)
all_at p (y ∷ ys) (suc i) x all there = all_at p ys i x (and-second (p y) (list_all p ys) all) there

pair_at : {X : Type 0} (r : X → X → Bool) (xs : List X) (i j : ℕ) (x y : X) → each_pair r xs ≡ true → slice_get xs i ≡ Some x → slice_get xs j ≡ Some y → i < j → r x y ≡ true
pair_at r [] i j x y all at_i at_j less = absurd cc
pair_at r (z ∷ zs) i zero x y all at_i at_j less = absurd (omega arith)
pair_at r (z ∷ zs) zero (suc j) x y all at_i at_j less = let is : z ≡ x = cc in rw (← is) (all_at (r z) zs j y (and-first (list_all (r z) zs) (each_pair r zs) all) at_j)
pair_at r (z ∷ zs) (suc i) (suc j) x y all at_i at_j less = pair_at r zs i j x y (and-second (list_all (r z) zs) (each_pair r zs) all) at_i at_j (omega arith)

order : (i j : ℕ) → (i < j) ⊎ ((i ≡ j) ⊎ (j < i))
order i j = ⊎_elim (λ less. inl less) (λ rest. ⊎_elim (λ more. inr (inr more)) (λ past. inr (inl (omega (arith, rest, past)))) (cases_lt j i)) (cases_lt i j)

found_here : {X : Type 0} (p : X → Bool) (b : Bool) (y x : X) (rest : Option X) → p y ≡ b → cond b (Some y) rest ≡ Some x → (rest ≡ Some x → p x ≡ true) → p x ≡ true
found_here p true y x rest is e later = ap p (sym (same_Some y x e)) ∙ is
found_here p false y x rest is e later = later e

pub found_passes : {X : Type 0} (p : X → Bool) (xs : List X) (x : X) → find p xs ≡ Some x → p x ≡ true
found_passes p [] x e = absurd cc
found_passes p (y ∷ ys) x e = found_here p (p y) y x (find p ys) refl e (found_passes p ys x)

-- ---- a port of the top switch above

pub record Top (ports : List DownstreamPort) (port : DownstreamPort) (bus : ℕ) : Type 0 where
  pub place : ℕ
  pub line : DownstreamPort
  pub there : slice_get ports place ≡ Some line
  pub high : bus_of line.id ≡ 2
  pub low : line.secondary ≤ bus
  pub up : bus ≤ line.subordinate
  pub owner : line.owner ≡ port.owner

-- what a nested port says of itself and of the port above it
record Below (above : Option DownstreamPort) (port : DownstreamPort) : Type 0 where
  after : bus_of port.id < port.secondary
  inside : (top : DownstreamPort) → above ≡ Some top → (port.subordinate ≤ top.subordinate) × (port.owner ≡ top.owner)

below : (above : Option DownstreamPort) (port : DownstreamPort) → is_inside above port ≡ true → Below above port
below None port h = record { after = ltb-true (bus_of port.id) port.secondary h; inside = λ top e. absurd cc }
below (Some top) port h =
    let one = and-first _ _ h in
    let two = and-first _ _ one in
    record {
      after = ltb-true (bus_of port.id) port.secondary (and-first _ _ two);
      inside = λ other e. let is : top ≡ other = cc in rw (← is) (leb-true port.subordinate top.subordinate (and-second (nat_lt (bus_of port.id) port.secondary) (nat_le port.subordinate top.subordinate) two), eqb-true port.owner top.owner (and-second _ (port.owner == top.owner) h));
    }

nested_below : (ports : List DownstreamPort) (switch : Switch) (port : DownstreamPort) → is_nested_on ports (Some switch) port ≡ true → Below (port_above ports switch) port
nested_below ports switch port h = below (port_above ports switch) port (and-second (nat_le port.secondary port.subordinate && nat_lt port.base port.limit) (is_inside (port_above ports switch) port) h)

wide : (ports : List DownstreamPort) (o : Option Switch) (port : DownstreamPort) → is_nested_on ports o port ≡ true → port.secondary ≤ port.subordinate
wide ports None port h = absurd cc
wide ports (Some switch) port h =
    let sizes = and-first (nat_le port.secondary port.subordinate && nat_lt port.base port.limit) (is_inside (port_above ports switch) port) h in
    leb-true port.secondary port.subordinate (and-first (nat_le port.secondary port.subordinate) (nat_lt port.base port.limit) sizes)

-- the ports of a switch that hangs below a port come after that port's first bus
record Hung (ports : List DownstreamPort) (above : ℕ) (switch : Switch) : Type 0 where
  line : DownstreamPort
  there : port_at ports above ≡ Some line
  bus : bus_of switch.id ≡ line.secondary

hung_from : (ports : List DownstreamPort) (above : ℕ) (switch : Switch) (o : Option DownstreamPort) → port_at ports above ≡ o → is_hung_below o switch ≡ true → Hung ports above switch
hung_from ports above switch None there h = absurd cc
hung_from ports above switch (Some port) there h =
    let same : switch.id ≡ port.secondary * 256 + 0 * 8 + 0 = eqb-true switch.id (id_below port) (and-first (switch.id == id_below port) (nat_lt port.secondary port.subordinate) h) in
    record { line = port; there = there; bus = omega (arith, same) }

after_own : (ports : List DownstreamPort) (o : Option Switch) (port : DownstreamPort) → is_nested_on ports o port ≡ true → bus_of port.id < port.secondary
after_own ports None port h = absurd cc
after_own ports (Some switch) port h = (nested_below ports switch port h).after

-- a port whose own bus is below n, and below which this bus is, has such a port above it
abbrev Rises : List DownstreamPort → ℕ → ℕ → Type 0
Rises ports bus n = (place : ℕ) (port : DownstreamPort) → slice_get ports place ≡ Some port → bus_of port.id < n → port.secondary ≤ bus → bus ≤ port.subordinate → Top ports port bus

through : (platform : Platform) (bus n place : ℕ) (port : DownstreamPort) (switch : Switch) (above : Option ℕ) → IsPlatform platform → Rises platform.ports bus n → slice_get platform.ports place ≡ Some port → bus_of port.id < suc n
    → port.secondary ≤ bus → bus ≤ port.subordinate → internal_bus switch ≡ bus_of port.id → Below (port_above platform.ports switch) port → switch.above ≡ above → is_hung_by platform.ports above switch ≡ true → Top platform.ports port bus
through platform bus n place port switch None laws rise there less low up on_bus nested is hung =
    let same : switch.id ≡ 1 * 256 + 0 * 8 + 0 = eqb-true switch.id (1 * 256 + 0 * 8 + 0) hung in
    record { place = place; line = port; there = there; high = omega (arith, same, on_bus); low = low; up = up; owner = refl }
through platform bus n place port switch (Some above) laws rise there less low up on_bus nested is hung =
    let h = hung_from platform.ports above switch (port_at platform.ports above) refl hung in
    let top = h.line in
    let over : port_above platform.ports switch ≡ Some top = ap (option_and_then (λ (id : ℕ). port_at platform.ports id)) is ∙ h.there in
    let inside = nested.inside top over in
    let test : DownstreamPort → Bool = λ line. line.id == above in
    let at : slice_get platform.ports (position_or_len test platform.ports) ≡ Some top = sym (find_at test platform.ports) ∙ h.there in
    let own = after_own platform.ports (switch_on platform.switches (bus_of top.id)) top (all_at (is_nested platform.switches platform.ports) platform.ports (position_or_len test platform.ports) top laws.nested at) in
    let found = rise (position_or_len test platform.ports) top at (omega (arith, own, h.bus, on_bus, less)) (omega (arith, h.bus, on_bus, nested.after, low)) (omega (arith, up, inside.0)) in
    record { place = found.place; line = found.line; there = found.there; high = found.high; low = found.low; up = found.up; owner = found.owner ∙ sym inside.1 }

on_switch : (platform : Platform) (bus n place : ℕ) (port : DownstreamPort) (o : Option Switch) → IsPlatform platform → Rises platform.ports bus n → slice_get platform.ports place ≡ Some port → bus_of port.id < suc n
    → port.secondary ≤ bus → bus ≤ port.subordinate → switch_on platform.switches (bus_of port.id) ≡ o → is_nested_on platform.ports o port ≡ true → Top platform.ports port bus
on_switch platform bus n place port None laws rise there less low up is nested = absurd cc
on_switch platform bus n place port (Some switch) laws rise there less low up is nested =
    let test : Switch → Bool = λ line. internal_bus line == bus_of port.id in
    through platform bus n place port switch switch.above laws rise there less low up (eqb-true (internal_bus switch) (bus_of port.id) (found_passes test platform.switches switch is))
    (nested_below platform.ports switch port nested) refl (all-found test (is_hung platform.ports) platform.switches switch is laws.hung)

climb : (platform : Platform) (bus n : ℕ) → IsPlatform platform → Rises platform.ports bus n
climb platform bus zero laws place port there less low up = absurd (omega arith)
climb platform bus (suc n) laws place port there less low up =
    on_switch platform bus n place port (switch_on platform.switches (bus_of port.id)) laws (climb platform bus n laws) there less low up refl
    (all_at (is_nested platform.switches platform.ports) platform.ports place port laws.nested there)

top_of : (platform : Platform) (place : ℕ) (port : DownstreamPort) → IsPlatform platform → slice_get platform.ports place ≡ Some port → Top platform.ports port port.secondary
top_of platform place port laws there =
    let fits = all_at (is_nested platform.switches platform.ports) platform.ports place port laws.nested there in
    climb platform port.secondary (suc (bus_of port.id)) laws place port there (omega arith) (omega arith) (wide platform.ports (switch_on platform.switches (bus_of port.id)) port fits)

-- ---- two ports

-- two ports of the top switch below which one bus is are one
apart_not : (a b c : Bool) (d e : Bool) → a ≡ true → b ≡ true → c ≡ true → (not d && not (a && b && c) && e) ≡ true → ⊥
apart_not a b c d e one two three h =
    let meets : (a && b && c) ≡ true = and-both (a && b) c (and-both a b one two) three in
    let first = and-first (not d && not (a && b && c)) e h in
    let second : not (a && b && c) ≡ true = and-second (not d) (not (a && b && c)) first in
    cc

clash : (one other : DownstreamPort) (bus : ℕ) → bus_of one.id ≡ 2 → bus_of other.id ≡ 2 → one.secondary ≤ bus → bus ≤ one.subordinate → other.secondary ≤ bus → bus ≤ other.subordinate → are_apart one other ≡ true → ⊥
clash one other bus high_one high_other low_one up_one low_other up_other h =
    apart_not (is_on_bus (bus_of other.id) one) (nat_le one.secondary other.subordinate) (nat_le other.secondary one.subordinate) (one.id == other.id) _
    (eq-eqb (bus_of one.id) (bus_of other.id) (high_one ∙ sym high_other)) (le-leb one.secondary other.subordinate (omega arith)) (le-leb other.secondary one.subordinate (omega arith)) h

tops_meet : (ports : List DownstreamPort) (one other : DownstreamPort) (bus : ℕ) → each_pair are_apart ports ≡ true → (a : Top ports one bus) (b : Top ports other bus) → a.line.owner ≡ b.line.owner
tops_meet ports one other bus all a b =
    ⊎_elim
    (λ less. absurd (clash a.line b.line bus a.high b.high a.low a.up b.low b.up (pair_at are_apart ports a.place b.place a.line b.line all a.there b.there less)))
    (λ rest. ⊎_elim
    (λ same. ap (λ (p : DownstreamPort). p.owner) (same_Some a.line b.line (sym a.there ∙ ap (slice_get ports) same ∙ b.there)))
    (λ more. absurd (clash b.line a.line bus b.high a.high b.low b.up a.low a.up (pair_at are_apart ports b.place a.place b.line a.line all b.there a.there more)))
    rest)
    (order a.place b.place)

-- two ports with the same bus below have one owner
pub one_owner : (platform : Platform) (i j : ℕ) (one other : DownstreamPort) → IsPlatform platform → slice_get platform.ports i ≡ Some one → slice_get platform.ports j ≡ Some other → one.secondary ≡ other.secondary → one.owner ≡ other.owner
one_owner platform i j one other laws at_i at_j same =
    let a = top_of platform i one laws at_i in
    let b = top_of platform j other laws at_j in
    let c : Top platform.ports other one.secondary = subst (Top platform.ports other) (sym same) b in
    sym a.owner ∙ tops_meet platform.ports one other one.secondary laws.apart a c ∙ c.owner
