-- A port of the switch that has the target below is where a packet goes.
use Rattle.std.proofs.Common.{◌≡◌, ℕ, ◌<◌, suc, Bool, true, false, cond, List, [], ◌∷◌, length, slice_index_or, Option, Some, None, refl, sym, ap, ◌∙◌, arith}
use Rattle.std.specs.Prelude.{◌==◌, Any, All, option_map}
use Rattle.std.specs.List.{find}
use Rattle.std.proofs.lemmas.Bool.{eq-eqb, and_from, false≢true}
use Rattle.fab_types.specs.Id.{bus_of}
use Rattle.platform.specs.declared.parts.DownstreamPort.{DownstreamPort}
use Rattle.platform.specs.declared.parts.Switch.{Switch}
use Rattle.layout.specs.Laws.{each_pair, are_apart}
use Rattle.platform.specs.Tree.{is_on_bus}
use Rattle.platform.specs.Tree.{port_at, internal_bus}
use Rattle.bridge.specs.declared.route.Route.TheVariants.{Up, Port, OwnEgress, Nobody}
use Rattle.bridge.specs.declared.target.Target.{Target}
use Rattle.bridge.specs.Routes.{holds, is_holder, holder_on, to_holder, route_below, route_from, switch_at, bus_from, exit_at}
use Rattle.bridge.proofs.Apart.{holder-found, port-found}

place-first : {X : Type 0} (p : X → Bool) (x y : X) (xs : List X) (b : Bool) → p x ≡ b → (find p xs ≡ Some y → Any (λ z. (p z ≡ true) × (z ≡ y)) xs)
    → cond b (Some x) (find p xs) ≡ Some y → Any (λ z. (p z ≡ true) × (z ≡ y)) (x ∷ xs)
place-first p x y xs true e rest found = (0, x, omega arith, refl, (e, cc))
place-first p x y xs false e rest found = let more = rest found in (suc more.0, more.1, omega (arith, more.2), more.3, more.4)

-- what is found stands somewhere and passes
found-place : {X : Type 0} (p : X → Bool) (xs : List X) (y : X) → find p xs ≡ Some y → Any (λ z. (p z ≡ true) × (z ≡ y)) xs
found-place p [] y found = absurd cc
found-place p (x ∷ xs) y found = place-first p x y xs (p x) refl (found-place p xs y) found

-- if the port where the packet came in has the target below, it is the one that has it
own-holder : (ports : List DownstreamPort) (own port : DownstreamPort) (ingress : ℕ) (target : Option Target) → each_pair are_apart ports ≡ true
    → port_at ports ingress ≡ Some own → holder_on ports (bus_of own.id) target ≡ Some port → holds own target ≡ true → own ≡ port
own-holder ports own port ingress target apart at found below =
    let place = found-place (λ (p : DownstreamPort). p.id == ingress) ports own at in
    let own-below : is_holder (bus_of own.id) target place.1 ≡ true = rw place.4.1 (and_from (is_on_bus (bus_of own.id) own) (holds own target) (eq-eqb (bus_of own.id) (bus_of own.id) refl) below) in
    let own-found : holder_on ports (bus_of own.id) target ≡ Some (slice_index_or ports place.0 place.1) =
    holder-found ports (bus_of own.id) target apart place.0 place.1 place.2 (rw place.3 own-below) in
    let is : slice_index_or ports place.0 place.1 ≡ own = place.3 ∙ place.4.1 in
    cc

-- the ID of the port where the packet came in
own-id : (ports : List DownstreamPort) (own : DownstreamPort) (ingress : ℕ) → port_at ports ingress ≡ Some own → (own.id == ingress) ≡ true
own-id ports own ingress at =
    let place = found-place (λ (p : DownstreamPort). p.id == ingress) ports own at in
    rw place.4.1 at place.4.0

held-upward : (ports : List DownstreamPort) (own port : DownstreamPort) (ingress : ℕ) (target : Option Target) → each_pair are_apart ports ≡ true
    → port_at ports ingress ≡ Some own → holder_on ports (bus_of own.id) target ≡ Some port → holds port target ≡ true
    → ((port.id == ingress) ≡ true → port_at ports ingress ≡ Some port)
    → (b c : Bool) → holds own target ≡ b → (port.id == ingress) ≡ c
    → cond b OwnEgress (to_holder Up (holder_on ports (bus_of own.id) target)) ≡ cond c OwnEgress (Port port.id)
held-upward ports own port ingress target apart at found below same true true here is = refl
held-upward ports own port ingress target apart at found below same true false here is =
    let e : own ≡ port = own-holder ports own port ingress target apart at found here in
    absurd (false≢true (sym is ∙ ap (λ (p : DownstreamPort). p.id == ingress) (sym e) ∙ own-id ports own ingress at))
held-upward ports own port ingress target apart at found below same false true here is =
    let again : port_at ports ingress ≡ Some port = same is in
    let e : own ≡ port = cc in
    absurd (false≢true (sym here ∙ ap (λ (p : DownstreamPort). holds p target) e ∙ below))
held-upward ports own port ingress target apart at found below same false false here is = rw found refl

held-downward : (ports : List DownstreamPort) (port : DownstreamPort) (ingress : ℕ) (holder : Option DownstreamPort) → holder ≡ Some port
    → ((port.id == ingress) ≡ true → port_at ports ingress ≡ Some port) → port_at ports ingress ≡ None
    → (c : Bool) → (port.id == ingress) ≡ c → to_holder Nobody holder ≡ cond c OwnEgress (Port port.id)
held-downward ports port ingress holder found same none true is = let again : port_at ports ingress ≡ Some port = same is in absurd cc
held-downward ports port ingress holder found same none false is = rw found refl

on-same-bus : (bus : ℕ) (target : Option Target) (port : DownstreamPort) → Some bus ≡ Some (bus_of port.id) → holds port target ≡ true → is_holder bus target port ≡ true
on-same-bus bus target port e below =
    let same : bus ≡ bus_of port.id = cc in
    and_from (is_on_bus bus port) (holds port target) (eq-eqb (bus_of port.id) bus (sym same)) below

held-from-switch : (ports : List DownstreamPort) (ingress : ℕ) (target : Option Target) → each_pair are_apart ports ≡ true
    → (k : ℕ) (d : DownstreamPort) → k < length ports → port_at ports ingress ≡ None → (switch : Option Switch)
    → option_map internal_bus switch ≡ Some (bus_of (slice_index_or ports k d).id) → holds (slice_index_or ports k d) target ≡ true
    → route_below ports switch target ≡ exit_at ingress (slice_index_or ports k d).id
held-from-switch ports ingress target apart k d within none None e below = absurd cc
held-from-switch ports ingress target apart k d within none (Some switch) e below =
    let port : DownstreamPort = slice_index_or ports k d in
    held-downward ports port ingress (holder_on ports (internal_bus switch) target)
    (holder-found ports (internal_bus switch) target apart k d within (on-same-bus (internal_bus switch) target port e below))
    (port-found ports ingress apart k d within) none (port.id == ingress) refl

held-from : (switches : List Switch) (ports : List DownstreamPort) (ingress : ℕ) (target : Option Target) → each_pair are_apart ports ≡ true
    → (k : ℕ) (d : DownstreamPort) → k < length ports → (own : Option DownstreamPort) → port_at ports ingress ≡ own
    → bus_from switches ingress own ≡ Some (bus_of (slice_index_or ports k d).id) → holds (slice_index_or ports k d) target ≡ true
    → route_from switches ports ingress target own ≡ exit_at ingress (slice_index_or ports k d).id
held-from switches ports ingress target apart k d within None at e below =
    held-from-switch ports ingress target apart k d within at (switch_at switches ingress) e below
held-from switches ports ingress target apart k d within (Some own) at e below =
    let port : DownstreamPort = slice_index_or ports k d in
    held-upward ports own port ingress target apart at
    (holder-found ports (bus_of own.id) target apart k d within (on-same-bus (bus_of own.id) target port e below))
    below (port-found ports ingress apart k d within) (holds own target) (port.id == ingress) refl refl

-- whatever port of the switch has the target below, the packet goes there
pub held : (switches : List Switch) (ports : List DownstreamPort) (ingress : ℕ) (target : Option Target) → each_pair are_apart ports ≡ true
    → All (λ port. bus_from switches ingress (port_at ports ingress) ≡ Some (bus_of port.id) → holds port target ≡ true
    → route_from switches ports ingress target (port_at ports ingress) ≡ exit_at ingress port.id) ports
held switches ports ingress target apart k d within e below = held-from switches ports ingress target apart k d within (port_at ports ingress) refl e below
