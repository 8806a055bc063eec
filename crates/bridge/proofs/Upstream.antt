-- A switch by its upstream port, which is the first device of its bus.
use Rattle.std.proofs.Common.{◌≡◌, ℕ, ◌+◌, Bool, true, false, cond, List, [], ◌∷◌, Option, Some, None, refl, sym, ap, ◌∙◌, arith}
use Rattle.std.specs.Prelude.{◌==◌, ◌&&◌, nat_lt}
use Rattle.std.specs.List.{list_all}
use Rattle.std.proofs.lemmas.Bool.{eqb-true, eq-eqb, and_parts, and_from, ne_eqb, false≢true}
use Rattle.fab_types.specs.Id.{id_of, bus_of}
use Rattle.platform.specs.declared.parts.DownstreamPort.{DownstreamPort}
use Rattle.platform.specs.declared.parts.Switch.{Switch}
use Rattle.platform.specs.Tree.{port_at, id_below, internal_bus}
use Rattle.layout.specs.Laws.{is_hung, is_hung_by, is_hung_below}
use Rattle.platform.proofs.Bools.{all-found}
use Rattle.bridge.specs.Groups.{Group, group_on, group_at, group_below, is_first_on_bus}
use Rattle.bridge.proofs.Finding.{found-none, find-passes, find-same, find-equal, find-and}

first-of : (line : Switch) (bus : ℕ) → line.id ≡ id_of bus 0 0 → is_first_on_bus line ≡ true
first-of line bus is = eq-eqb line.id (id_of (bus_of line.id) 0 0) (omega arith)

hung-below : (line : Switch) (port : Option DownstreamPort) → is_hung_below port line ≡ true → is_first_on_bus line ≡ true
hung-below line None hung = absurd (false≢true hung)
hung-below line (Some port) hung = first-of line port.secondary (eqb-true line.id (id_below port) (and_parts (line.id == id_below port) (nat_lt port.secondary port.subordinate) hung).0)

hung-by : (ports : List DownstreamPort) (line : Switch) (above : Option ℕ) → is_hung_by ports above line ≡ true → is_first_on_bus line ≡ true
hung-by ports line None hung = first-of line 1 (eqb-true line.id (id_of 1 0 0) hung)
hung-by ports line (Some above) hung = hung-below line (port_at ports above) hung

-- each switch hangs in the tree, so its upstream port is the first of a bus
pub firsts : (switches : List Switch) (ports : List DownstreamPort) → list_all (is_hung ports) switches ≡ true → list_all is_first_on_bus switches ≡ true
firsts [] ports hung = hung
firsts (line ∷ switches) ports hung =
    let hung' = and_parts (is_hung ports line) (list_all (is_hung ports) switches) hung in
    and_from (is_first_on_bus line) (list_all is_first_on_bus switches) (hung-by ports line line.above hung'.0) (firsts switches ports hung'.1)

both-true : (a b : Bool) → (a ≡ true → b ≡ true) → (b ≡ true → a ≡ true) → a ≡ b
both-true true b there back = sym (there refl)
both-true false true there back = back refl
both-true false false there back = refl

-- the ID of the first device of a bus is another ID where that is the first of the same bus
first-is : (one id : ℕ) → (one == id_of (bus_of one) 0 0) ≡ true → (one == id) ≡ ((bus_of one == bus_of id) && (id == id_of (bus_of id) 0 0))
first-is one id first =
    let head : one ≡ id_of (bus_of one) 0 0 = eqb-true one (id_of (bus_of one) 0 0) first in
    both-true (one == id) ((bus_of one == bus_of id) && (id == id_of (bus_of id) 0 0))
    (λ is. let e : one ≡ id = eqb-true one id is in
    and_from (bus_of one == bus_of id) (id == id_of (bus_of id) 0 0) (eq-eqb (bus_of one) (bus_of id) (ap bus_of e)) (rw e at first))
    (λ both. let both' = and_parts (bus_of one == bus_of id) (id == id_of (bus_of id) 0 0) both in
    let same : bus_of one ≡ bus_of id = eqb-true (bus_of one) (bus_of id) both'.0 in
    let there : id ≡ id_of (bus_of id) 0 0 = eqb-true id (id_of (bus_of id) 0 0) both'.1 in
    eq-eqb one id (head ∙ ap (λ (bus : ℕ). id_of bus 0 0) same ∙ sym there))

-- the switch, if its upstream port is this one
abbrev pub kept-at : ℕ → Option Group → Option Group
kept-at id None = None
kept-at id (Some group) = cond (group.line.id == id) (Some group) None

kept-either : (id : ℕ) (c : Bool) (found : Option Group) → ((group : Group) → found ≡ Some group → (group.line.id == id) ≡ c) → kept-at id found ≡ cond c found None
kept-either id true None is = refl
kept-either id false None is = refl
kept-either id c (Some group) is = ap (λ b. cond b (Some group) None) (is group refl)

-- the switch of an upstream port is the one whose upstream port is on that bus, if it is the port
pub at-kept : (groups : List Group) (id : ℕ) → list_all (λ group. is_first_on_bus group.line) groups ≡ true → kept-at id (group_below groups (bus_of id)) ≡ group_at groups id
at-kept groups id firsts =
    let on-bus : Group → Bool = λ group. bus_of group.line.id == bus_of id in
    let first : Bool = id == id_of (bus_of id) 0 0 in
    let is-first : Group → Bool = λ group. is_first_on_bus group.line in
    kept-either id first (group_below groups (bus_of id))
    (λ group found. first-is group.line.id id (all-found on-bus is-first groups group found firsts) ∙ ap (λ b. b && first) (find-passes on-bus groups group found))
    ∙ sym (find-same (λ (group : Group). group.line.id == id) (λ (group : Group). on-bus group && first) is-first groups firsts (λ group is. first-is group.line.id id is) ∙ find-and on-bus first groups)

next-is : (a b : ℕ) → (a == b) ≡ (a + 1 == b + 1)
next-is a b =
    both-true (a == b) (a + 1 == b + 1) (λ is. let e : a ≡ b = eqb-true a b is in eq-eqb (a + 1) (b + 1) (omega arith))
    (λ is. let e : a + 1 ≡ b + 1 = eqb-true (a + 1) (b + 1) is in eq-eqb a b (omega arith))

-- the ports of a switch are on the bus after that of its upstream port
pub on-below : (groups : List Group) (bus : ℕ) → group_below groups bus ≡ group_on groups (bus + 1)
on-below groups bus =
    find-equal (λ (group : Group). bus_of group.line.id == bus) (λ (group : Group). internal_bus group.line == bus + 1) groups
    (λ group. next-is (bus_of group.line.id) bus)

-- and so never on bus 0
pub none-on-zero : (groups : List Group) → group_on groups 0 ≡ None
none-on-zero groups =
    find-equal (λ (group : Group). internal_bus group.line == 0) (λ (group : Group). false) groups
    (λ group. ne_eqb (internal_bus group.line) 0 (λ e. absurd (omega arith)))
    ∙ found-none groups
