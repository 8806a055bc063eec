-- How many functions there are: each stands alone below a port, and ports stand on the buses of switches.
use Rattle.std.proofs.Common.{◌≡◌, ℕ, ◌+◌, ◌*◌, ◌==◌, ◌≤◌, Bool, true, false, cond, List, [], ◌∷◌, ◌++◌, length, length-append, Option, Some, refl, sym, arith, eqb-true, eq-eqb}
use Rattle.std.specs.Prelude.{count_by, is_some}
use Rattle.std.specs.List.{list_all, find}
use Rattle.std.proofs.lemmas.List.Sums.{count_by-le-length}
use Rattle.fab_types.specs.Id.{bus_of}
use Rattle.platform.specs.declared.parts.Switch.{Switch}
use Rattle.platform.specs.declared.parts.DownstreamPort.{DownstreamPort}
use Rattle.platform.specs.declared.parts.EndpointFunction.{EndpointFunction}
use Rattle.platform.specs.Tree.{id_below, is_switch, is_taken, port_leading_to, switch_on, internal_bus}
use Rattle.platform.specs.Owners.{is_function}
use Rattle.platform.specs.Tree.{is_on_bus}
use Rattle.layout.specs.Laws.{is_nested, is_used, AreAlone}
use Rattle.platform.proofs.Bools.{all-weaker}
use Rattle.layout.proofs.Bools.{any-stays, any-last, some-weaker, count-more, or-weaker, or-here, or-last}
use Rattle.layout.proofs.Counts.{all-counted, sum-most, count-weaker, count-grows}
use Rattle.layout.proofs.Nesting.{nested-some}

standing : (switches : List Switch) (bus : ℕ) → is_some (switch_on switches bus) ≡ true → is_some (find (λ (switch : Switch). bus == internal_bus switch) switches) ≡ true
standing switches bus h =
    some-weaker (λ (switch : Switch). internal_bus switch == bus) (λ (switch : Switch). bus == internal_bus switch) switches
    (λ switch e. eq-eqb bus (internal_bus switch) (sym (eqb-true (internal_bus switch) bus e))) h

few-ports : (switches : List Switch) (ports : List DownstreamPort) → ((bus : ℕ) → count_by (is_on_bus bus) ports ≤ 8) → list_all (is_nested switches ports) ports ≡ true → length ports ≤ length switches * 8
few-ports switches ports few nested =
    let on = λ (switch : Switch). is_on_bus (internal_bus switch) in
    let stands = all-weaker (is_nested switches ports) (λ (port : DownstreamPort). is_some (find (λ (switch : Switch). on switch port) switches)) ports
    (λ port h. standing switches (bus_of port.id) (nested-some ports (switch_on switches (bus_of port.id)) port h)) nested in
    let counted = all-counted on switches ports stands in
    let most = sum-most (λ (switch : Switch). count_by (on switch) ports) 8 switches (λ switch. few (internal_bus switch)) in
    omega (arith, counted, most)

-- 8 switches of 8 ports each: 7 of those lead to switches
pub few-functions : (switches : List Switch) (ports : List DownstreamPort) (functions : List EndpointFunction) → length switches ≤ 8 → ((bus : ℕ) → count_by (is_on_bus bus) ports ≤ 8) → list_all (is_nested switches ports) ports ≡ true
    → AreAlone switches ports functions → length functions ≤ 57
few-functions switches ports functions eight few nested alone =
    let all = few-ports switches ports few nested in
    let used = count_by-le-length (is_used switches functions) ports in
    omega (arith, all, used, alone, eight)

-- no functions without switches
pub no-functions : (switches : List Switch) (ports : List DownstreamPort) (functions : List EndpointFunction) → length switches ≡ 0 → ((bus : ℕ) → count_by (is_on_bus bus) ports ≤ 8) → list_all (is_nested switches ports) ports ≡ true
    → AreAlone switches ports functions → length functions ≡ 0
no-functions switches ports functions none few nested alone =
    let all = few-ports switches ports few nested in
    let used = count_by-le-length (is_used switches functions) ports in
    omega (arith, all, used, alone, none)

is-here : {X : Type 0} (b : Bool) (f : X → ℕ) (id : ℕ) (x y : X) (further : Option X) → b ≡ (f y == id) → cond b (Some y) further ≡ Some x → (further ≡ Some x → f x ≡ id) → f x ≡ id
is-here true f id x y further is e later = let same : y ≡ x = cc in rw (← same) (eqb-true (f y) id (sym is))
is-here false f id x y further is e later = later e

found-is : {X : Type 0} (f : X → ℕ) (id : ℕ) (xs : List X) (x : X) → find (λ y. f y == id) xs ≡ Some x → f x ≡ id
found-is f id [] x e = absurd cc
found-is f id (y ∷ ys) x e = is-here (f y == id) f id x y (find (λ y. f y == id) ys) refl e (found-is f id ys x)

used-among : (switches more : List Switch) (functions : List EndpointFunction) (port : DownstreamPort) → is_used switches functions port ≡ true → is_used (switches ++ more) functions port ≡ true
used-among switches more functions port =
    or-weaker (is_switch switches (id_below port)) (is_function functions (id_below port)) (is_switch (switches ++ more) (id_below port)) (is_function functions (id_below port))
    (any-stays (λ (switch : Switch). switch.id == id_below port) switches more) (λ u. u)

-- one more port
pub alone-port : (switches : List Switch) (ports : List DownstreamPort) (functions : List EndpointFunction) (port : DownstreamPort) → AreAlone switches ports functions → AreAlone switches (ports ++ port ∷ []) functions
alone-port switches ports functions port h = let more = count-more (is_used switches functions) ports port in omega (arith, more, h)

-- a function below a port that was free
pub alone-function : (switches : List Switch) (ports : List DownstreamPort) (functions : List EndpointFunction) (function : EndpointFunction) (port : DownstreamPort) → port_leading_to ports function.id ≡ Some port → is_taken switches functions function.id ≡ false
    → AreAlone switches ports functions → AreAlone switches ports (functions ++ function ∷ [])
alone-function switches ports functions function port e free h =
    let here : id_below port ≡ function.id = found-is id_below function.id ports port e in
    let more = count-grows (is_used switches functions) (is_used switches (functions ++ function ∷ [])) (λ (other : DownstreamPort). id_below other == function.id) ports port
    (λ other. or-weaker (is_switch switches (id_below other)) (is_function functions (id_below other)) (is_switch switches (id_below other)) (is_function (functions ++ function ∷ []) (id_below other)) (λ u. u)
    (any-stays (λ (line : EndpointFunction). line.id == id_below other) functions (function ∷ [])))
    e (rw here free) (or-last (is_switch switches (id_below port)) (is_function (functions ++ function ∷ []) (id_below port)) (any-last (λ (line : EndpointFunction). line.id == id_below port) functions function (eq-eqb function.id (id_below port) (sym here)))) in
    let longer : length (functions ++ function ∷ []) ≡ length functions + 1 = length-append functions (function ∷ []) in
    omega (arith, more, longer, h)

-- a switch below a port that was free
pub alone-switch : (switches : List Switch) (ports : List DownstreamPort) (functions : List EndpointFunction) (switch : Switch) (r : DownstreamPort → Bool) (port : DownstreamPort) → find r ports ≡ Some port → switch.id ≡ id_below port → is_taken switches functions switch.id ≡ false
    → AreAlone switches ports functions → AreAlone (switches ++ switch ∷ []) ports functions
alone-switch switches ports functions switch r port e here free h =
    let more = count-grows (is_used switches functions) (is_used (switches ++ switch ∷ []) functions) r ports port (used-among switches (switch ∷ []) functions)
    e (rw here at free) (or-here (is_switch (switches ++ switch ∷ []) (id_below port)) (is_function functions (id_below port)) (any-last (λ (line : Switch). line.id == id_below port) switches switch (eq-eqb switch.id (id_below port) here))) in
    let longer : length (switches ++ switch ∷ []) ≡ length switches + 1 = length-append switches (switch ∷ []) in
    omega (arith, more, longer, h)

-- the top switch, before all others
pub alone-root : (switches : List Switch) (ports : List DownstreamPort) (functions : List EndpointFunction) (switch : Switch) → length switches ≡ 0 → AreAlone switches ports functions → AreAlone (switches ++ switch ∷ []) ports functions
alone-root switches ports functions switch none h =
    let more = count-weaker (is_used switches functions) (is_used (switches ++ switch ∷ []) functions) ports (used-among switches (switch ∷ []) functions) in
    let longer : length (switches ++ switch ∷ []) ≡ length switches + 1 = length-append switches (switch ∷ []) in
    omega (arith, more, longer, none, h)
