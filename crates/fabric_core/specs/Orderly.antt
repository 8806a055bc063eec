-- What holds in every fabric of a guarded layout, in which each downstream port has all five controls set.
use Rattle.std.specs.Prelude.{◌≡◌, [], All}
use Rattle.std.specs.List.{flat_map}
use Rattle.domain.specs.Domains.{DomainView}
use Rattle.domain.specs.Machine.{aliens_in}
use Rattle.fabric_core.specs.Places.{strays_of}
use Rattle.fabric_core.specs.World.{World}

-- no entry of its journal is of an alien packet
abbrev pub HasNoAlien : DomainView → Type 0
HasNoAlien d = aliens_in d.journal ≡ 0

-- no packet was ever taken where nobody had a case for it: no port keeps one, nor do the host and the functions, and no
-- domain got one from another
pub record IsOrderly (w : World) : Type 0 where
  pub ports : flat_map strays_of w.ports ≡ []
  pub strays : w.strays ≡ []
  pub journals : All HasNoAlien w.agents.domains
