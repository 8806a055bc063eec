-- The owner of an ID, of a host or of another.
use Rattle.std.proofs.Common.{◌≡◌, ℕ, Bool, true, false, cond, List, Some, refl, ap, arith}
use Rattle.std.specs.Prelude.{◌==◌, ◌&&◌}
use Rattle.std.proofs.lemmas.Bool.{eqb-true}
use Rattle.fab_types.specs.Id.{bus_of, device_of, function_of, host_of}
use Rattle.platform.specs.declared.parts.DownstreamPort.{DownstreamPort}
use Rattle.platform.specs.Owners.{owner_of, owner_of_bus, owns_port}
use Rattle.bridge.specs.Owners.{owner_of_host}

pub owner-host : (ports : List DownstreamPort) (id : ℕ) → bus_of id ≡ 0 → function_of id ≡ 0 → owner_of_host ports (device_of id) ≡ owner_of ports id
owner-host ports id bus function = let is : host_of (device_of id) ≡ id = omega arith in ap (owner_of ports) is

not-first-two : {X : Type 0} (a b c : Bool) (x y : X) → (a ≡ true → b ≡ true → ⊥) → cond (a && b && c) x y ≡ y
not-first-two true true c x y never = absurd (never refl refl)
not-first-two true false c x y never = refl
not-first-two false b c x y never = refl

pub owner-elsewhere : (ports : List DownstreamPort) (id : ℕ) → (bus_of id ≡ 0 → function_of id ≡ 0 → ⊥) → owner_of ports id ≡ owner_of_bus ports (bus_of id)
owner-elsewhere ports id never =
    not-first-two (bus_of id == 0) (function_of id == 0) (owns_port ports (device_of id)) (Some (device_of id)) (owner_of_bus ports (bus_of id))
    (λ bus function. never (eqb-true (bus_of id) 0 bus) (eqb-true (function_of id) 0 function))
