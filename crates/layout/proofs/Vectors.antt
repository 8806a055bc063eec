-- Ports are given vectors, and nothing else of the platform changes.
use Rattle.std.proofs.Common.{◌≡◌, ℕ, ◌+◌, ◌<◌, ◌==◌, Bool, true, false, cond, List, [], ◌∷◌, ◌++◌, map, take, drop, set, get_or, length, Option, Some, None, refl, sym, ap, ◌∙◌, arith, add-zero, eqb-true, eq-eqb}
use Rattle.std.specs.Prelude.{◌&&◌, ◌||◌, not, is_some}
use Rattle.std.specs.List.{list_all, list_any}
use Rattle.std.proofs.lemmas.Bool.{false≢true}
use Rattle.std.proofs.lemmas.Grind.{drop_more_same}
use Rattle.std.proofs.lemmas.List.{drop-set-lt, get_or-drop, length-set, map-append, take_more, take_more_set}
use Rattle.std.proofs.lemmas.List.Folds.{list_all-map}
use Rattle.fab_types.specs.Id.{bus_of, device_of}
use Rattle.fab_types.specs.Controls.{controls_egress}
use Rattle.platform.specs.declared.parts.LayoutVersion.{LayoutVersion}
use Rattle.platform.specs.declared.parts.DownstreamPort.{DownstreamPort}
use Rattle.platform.specs.declared.parts.EndpointFunction.{EndpointFunction}
use Rattle.layout_line.specs.declared.lines.EgressText.{EgressText}
use Rattle.layout_line.specs.declared.lines.PortText.{PortText}
use Rattle.platform.specs.Egress.{has_bit}
use Rattle.platform.specs.Owners.{is_function}
use Rattle.platform.specs.Platform.{Platform}
use Rattle.platform.specs.Tree.{id_below, is_on_bus}
use Rattle.layout.specs.Additions.{port_line, with_vector}
use Rattle.layout.specs.Laws.{keeps_home}
use Rattle.layout.specs.Rules.{has_foreign_bit, has_vectors, is_let_abroad, lets_abroad, port_fault_below}
use Rattle.platform.proofs.Bools.{all-weaker, or-first, or-second}
use Rattle.layout.proofs.Bools.{all-more, all-not, all-weaker-among, any-not_last, any-stays, not-true, true-not}
use Rattle.layout.proofs.NoFault.{good-port}

neither : (b c rest : Bool) → (b ≡ true → c ≡ true) → c ≡ false → rest ≡ false → (b || rest) ≡ false
neither true c rest more not_c none = absurd (false≢true (sym not_c ∙ more refl))
neither false c rest more not_c none = none

any-stronger : {X : Type 0} (p q : X → Bool) (xs : List X) → ((x : X) → p x ≡ true → q x ≡ true) → list_any q xs ≡ false → list_any p xs ≡ false
any-stronger p q [] h none = refl
any-stronger p q (x ∷ xs) h none = neither (p x) (q x) (list_any p xs) (h x) (or-first (q x) (list_any q xs) none) (any-stronger p q xs h (or-second (q x) (list_any q xs) none))

any-none : {X : Type 0} (p : X → Bool) (xs : List X) → ((x : X) → p x ≡ false) → list_any p xs ≡ false
any-none p [] h = refl
any-none p (x ∷ xs) h = rw (h x) (any-none p xs h)

any-map : {X : Type 0} (p : X → Bool) (f : X → X) (xs : List X) → ((x : X) → p (f x) ≡ p x) → list_any p (map f xs) ≡ list_any p xs
any-map p f [] h = refl
any-map p f (x ∷ xs) h = rw (h x, any-map p f xs h) refl

-- ---- a function more

abroad-weaker : (a d e e' : Bool) → (e ≡ true → e' ≡ true) → (a && not (d && e')) ≡ true → (a && not (d && e)) ≡ true
abroad-weaker false d e e' more h = absurd (false≢true h)
abroad-weaker true false e e' more h = refl
abroad-weaker true true false e' more h = refl
abroad-weaker true true true true more h = h
abroad-weaker true true true false more h = absurd (false≢true (more refl))

let-abroad : (functions more : List EndpointFunction) (port other : DownstreamPort) → is_let_abroad (functions ++ more) port other ≡ true → is_let_abroad functions port other ≡ true
let-abroad functions more port other =
    abroad-weaker _ (other.owner == port.owner) (is_function functions (id_below other)) (is_function (functions ++ more) (id_below other)) (any-stays (λ (line : EndpointFunction). line.id == id_below other) functions more)

pub vectors-more : (functions more : List EndpointFunction) (ports : List DownstreamPort) → list_all (keeps_home functions ports) ports ≡ true → list_all (keeps_home (functions ++ more) ports) ports ≡ true
vectors-more functions more ports =
    all-weaker (keeps_home functions ports) (keeps_home (functions ++ more) ports) ports
    (λ port home. not-true (lets_abroad (functions ++ more) ports port)
    (any-stronger (is_let_abroad (functions ++ more) port) (is_let_abroad functions port) ports (let-abroad functions more port) (true-not (lets_abroad functions ports port) home)))

-- ---- a port more

lets-none : (vector : Option ℕ) (back far controls home on : Bool) (device : ℕ) → not (on && is_some vector) ≡ true → (back ≡ true → on ≡ true) → (back && far && (controls && not (has_bit vector device)) && home) ≡ false
lets-none vector false far controls home on device free same = refl
lets-none vector true false controls home on device free same = refl
lets-none vector true true false home on device free same = refl
lets-none None true true true home on device free same = refl
lets-none (Some vector) true true true home true device free same = absurd (false≢true free)
lets-none (Some vector) true true true home false device free same = absurd (false≢true (same refl))

pub no-vectors : (version : LayoutVersion) (ports : List DownstreamPort) (above : Option DownstreamPort) (port : PortText) → None ≡ port_fault_below version ports above port → has_vectors ports (bus_of port.id) ≡ false
no-vectors version ports above port none = (good-port version ports above port none).vectors

old-home : (functions : List EndpointFunction) (ports : List DownstreamPort) (new : PortText) (port : DownstreamPort) → not (is_on_bus (bus_of new.id) port && is_some port.egress_vector) ≡ true → keeps_home functions ports port ≡ true → keeps_home functions (ports ++ port_line new ∷ []) port ≡ true
old-home functions ports new port free home =
    let back : (bus_of new.id == bus_of port.id) ≡ true → (bus_of port.id == bus_of new.id) ≡ true = λ same. eq-eqb (bus_of port.id) (bus_of new.id) (sym (eqb-true (bus_of new.id) (bus_of port.id) same)) in
    not-true (lets_abroad functions (ports ++ port_line new ∷ []) port)
    (any-not_last (is_let_abroad functions port) ports (port_line new) (true-not (lets_abroad functions ports port) home)
    (lets-none port.egress_vector (bus_of new.id == bus_of port.id) (not (new.id == port.id)) (controls_egress port.controls)
    (not ((new.owner == port.owner) && is_function functions (id_below (port_line new)))) (bus_of port.id == bus_of new.id) (device_of new.id) free back))

new-home : (functions : List EndpointFunction) (ports : List DownstreamPort) (new : PortText) → keeps_home functions (ports ++ port_line new ∷ []) (port_line new) ≡ true
new-home functions ports new =
    not-true (lets_abroad functions (ports ++ port_line new ∷ []) (port_line new))
    (any-none (is_let_abroad functions (port_line new)) (ports ++ port_line new ∷ [])
    (λ other. lets-none None (is_on_bus (bus_of new.id) other) (not (other.id == new.id)) (controls_egress (port_line new).controls) (not ((other.owner == new.owner) && is_function functions (id_below other))) true (device_of other.id) refl (λ _. refl)))

pub vectors-new : (functions : List EndpointFunction) (ports : List DownstreamPort) (new : PortText) → has_vectors ports (bus_of new.id) ≡ false → list_all (keeps_home functions ports) ports ≡ true
    → list_all (keeps_home functions (ports ++ port_line new ∷ [])) (ports ++ port_line new ∷ []) ≡ true
unfolding has_vectors
vectors-new functions ports new free home =
    all-more (keeps_home functions (ports ++ port_line new ∷ [])) ports (port_line new)
    (all-weaker-among (λ (port : DownstreamPort). not (is_on_bus (bus_of new.id) port && is_some port.egress_vector)) (keeps_home functions ports) (keeps_home functions (ports ++ port_line new ∷ [])) ports
    (old-home functions ports new) (all-not (λ (port : DownstreamPort). is_on_bus (bus_of new.id) port && is_some port.egress_vector) ports free) home)
    (new-home functions ports new)

-- ---- a vector is given

-- a vector that is given lets nothing abroad, and ports without the line's ID stay
given-home : (functions : List EndpointFunction) (ports : List DownstreamPort) (egress : EgressText) (port : DownstreamPort) (mine : Bool) → (port.id == egress.port) ≡ mine → (mine && lets_abroad functions ports (with_vector egress port)) ≡ false
    → keeps_home functions ports port ≡ true → lets_abroad functions ports (with_vector egress port) ≡ false
given-home functions ports egress port true e given home = given
given-home functions ports egress port false e given home =
    ap (λ (b : Bool). lets_abroad functions ports (record port { egress_vector = cond b (Some egress.vector) port.egress_vector })) e ∙ true-not (lets_abroad functions ports port) home

all-given : (functions : List EndpointFunction) (ports : List DownstreamPort) (egress : EgressText) (some : List DownstreamPort) → list_any (λ (port : DownstreamPort). (port.id == egress.port) && lets_abroad functions ports (with_vector egress port)) some ≡ false
    → list_all (keeps_home functions ports) some ≡ true → list_all (λ port. keeps_home functions (map (with_vector egress) ports) (with_vector egress port)) some ≡ true
all-given functions ports egress some given home =
    all-weaker-among (λ (port : DownstreamPort). not ((port.id == egress.port) && lets_abroad functions ports (with_vector egress port))) (keeps_home functions ports) (λ port. keeps_home functions (map (with_vector egress) ports) (with_vector egress port)) some
    (λ port own old. not-true (lets_abroad functions (map (with_vector egress) ports) (with_vector egress port))
    (any-map (is_let_abroad functions (with_vector egress port)) (with_vector egress) ports (λ other. refl)
    ∙ given-home functions ports egress port (port.id == egress.port) refl (true-not ((port.id == egress.port) && lets_abroad functions ports (with_vector egress port)) own) old))
    (all-not (λ (port : DownstreamPort). (port.id == egress.port) && lets_abroad functions ports (with_vector egress port)) some given) home

pub vectors-given : (p : Platform) (egress : EgressText) → list_all (keeps_home p.functions p.ports) p.ports ≡ true → has_foreign_bit p egress ≡ false
    → list_all (keeps_home p.functions (map (with_vector egress) p.ports)) (map (with_vector egress) p.ports) ≡ true
unfolding has_foreign_bit
vectors-given p egress home given =
    list_all-map (keeps_home p.functions (map (with_vector egress) p.ports)) (with_vector egress) p.ports ∙ all-given p.functions p.ports egress p.ports given home

-- ---- one after the other

-- the ports before a place have been given theirs, and the others are as they were
abbrev pub GivenBefore : EgressText → ℕ → List DownstreamPort → List DownstreamPort → Type 0
GivenBefore egress i ports old = (take i ports ≡ map (with_vector egress) (take i old)) × (drop i ports ≡ drop i old) × (length ports ≡ length old)

pub given_more : (egress : EgressText) (ports old : List DownstreamPort) (i : ℕ) (d x : DownstreamPort) → i < length old → x ≡ with_vector egress (get_or ports i d) → GivenBefore egress i ports old
    → GivenBefore egress (i + 1) (set ports i x) old
given_more egress ports old i d x within is before =
    let (done, left, long) = before in
    let here : get_or ports i d ≡ get_or old i d = ap (λ (n : ℕ). get_or ports n d) (sym (add-zero i)) ∙ sym (get_or-drop i ports 0 d) ∙ ap (λ (l : List DownstreamPort). get_or l 0 d) left ∙ get_or-drop i old 0 d ∙ ap (λ (n : ℕ). get_or old n d) (add-zero i) in
    let inside : i < length ports = omega (arith, within, long) in
    let next : i < i + 1 = omega arith in
    let given : x ≡ with_vector egress (get_or old i d) = is ∙ ap (with_vector egress) here in (
      take_more_set ports i x inside ∙ ap (λ (l : List DownstreamPort). l ++ x ∷ []) done ∙ ap (λ (y : DownstreamPort). map (with_vector egress) (take i old) ++ y ∷ []) given
          ∙ sym (ap (map (with_vector egress)) (take_more old i d within) ∙ map-append (with_vector egress) (take i old) (get_or old i d ∷ [])),
      drop-set-lt (i + 1) ports i x next ∙ drop_more_same ports old i left,
      length-set ports i x ∙ long,
    )
