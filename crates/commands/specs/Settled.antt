-- What is left of a run that has come to a stop (PCIe 4.0, 2.4.1 and 2.6.1).
use Rattle.std.specs.Prelude.{◌≡◌, true, false, List}
use Rattle.platform.specs.Platform.{Platform}
use Rattle.fabric_core.specs.declared.event.Event.{Event}
use Rattle.fabric_core.specs.Still.{HasNoneInFlight, IsEmpty}
use Rattle.fabric_core.specs.World.{World, is_guarded, world_of}
use Rattle.sweeps.specs.Sweeps.{IsSweep, Sweeps}

-- one more sweep moves nothing; so each line `sweep N` ends that makes fewer than N of them
abbrev pub HasStopped : Platform → World → Type 0
HasStopped platform w = (sweep : List Event) × IsSweep platform (world_of platform).agents.domains sweep × Sweeps sweep w false w

-- Where nothing moves any more, no packet waits or travels anywhere; and where the layout is guarded, all that any domain made was
-- consumed
pub record Settles (platform : Platform) (w : World) : Type 0 where
  pub empty : HasStopped platform w → IsEmpty w
  pub consumed : is_guarded (world_of platform) ≡ true → HasStopped platform w → HasNoneInFlight w
