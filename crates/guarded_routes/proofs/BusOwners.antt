-- The owner of a bus is that of each port that holds it.
use Rattle.std.proofs.Common.{◌≡◌, ℕ, ◌==◌, true, Some, option_map, ap, ◌∙◌}
use Rattle.platform.specs.declared.parts.DownstreamPort.{DownstreamPort}
use Rattle.layout.specs.Laws.{IsPlatform}
use Rattle.platform.specs.Owners.{holds_bus, owner_of_bus}
use Rattle.platform.specs.Platform.{Platform}
use Rattle.bridge.specs.declared.target.Target.TheVariants.{Bus}
use Rattle.guarded_routes.proofs.Below.{one_owner}
use Rattle.guarded_routes.proofs.Finds.{any_found, find_any, find_passes, some}
use Rattle.guarded_routes.proofs.Trees.{IsPort, is_port}

pub owner_is : (platform : Platform) → IsPlatform platform → (port : DownstreamPort) → IsPort platform port → (bus : ℕ) → holds_bus port bus ≡ true → owner_of_bus platform.ports bus ≡ Some port.owner
owner_is platform laws port listed bus held =
    let first = any_found (λ (q : DownstreamPort). holds_bus q bus) platform.ports (find_any (λ (q : DownstreamPort). q.id == port.id) (λ (q : DownstreamPort). holds_bus q bus) platform.ports port listed held) in
    let same : first.found.owner ≡ port.owner = one_owner platform laws first.found port
    (is_port platform laws (λ (q : DownstreamPort). holds_bus q bus) first.found first.is) listed (Bus bus)
    (find_passes (λ (q : DownstreamPort). holds_bus q bus) platform.ports first.found first.is) held in
    ap (option_map (λ (q : DownstreamPort). q.owner)) first.is ∙ ap some same
