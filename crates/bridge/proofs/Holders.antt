-- The port that has a target below it, by its ID.
use Rattle.std.proofs.Common.{◌≡◌, ℕ, Option, Some, None, refl}
use Rattle.std.specs.Prelude.{option_map}
use Rattle.platform.specs.declared.parts.DownstreamPort.{DownstreamPort}
use Rattle.bridge.specs.declared.route.Route.{Route}
use Rattle.bridge.specs.declared.route.Route.TheVariants.{Port}
use Rattle.bridge.specs.Routes.{to_holder}

-- the way to a port is known by its ID alone
pub to_holder-Some : (otherwise : Route) (holder : Option DownstreamPort) (id : ℕ) → option_map (λ (port : DownstreamPort). port.id) holder ≡ Some id → Port id ≡ to_holder otherwise holder
to_holder-Some otherwise None id e = absurd cc
to_holder-Some otherwise (Some port) id e = cc

pub to_holder-None : (otherwise : Route) (holder : Option DownstreamPort) → option_map (λ (port : DownstreamPort). port.id) holder ≡ None → otherwise ≡ to_holder otherwise holder
to_holder-None otherwise None e = refl
to_holder-None otherwise (Some port) e = absurd cc
