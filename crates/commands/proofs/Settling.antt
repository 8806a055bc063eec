-- What is left of what a script drove.
use Rattle.std.proofs.Common.{◌≡◌, false, true, List}
use Rattle.fab_types.specs.declared.outcome.Outcome.{Outcome}
use Rattle.layout.specs.Laws.{IsPlatform}
use Rattle.platform.specs.Platform.{Platform}
use Rattle.script.specs.declared.lines.Line.{Line}
use Rattle.fabric_core.specs.declared.event.Event.{Event}
use Rattle.fabric_core.specs.Runs.{Run}
use Rattle.fabric_core.specs.Still.{Concludes, IsStill, NeverBlocks}
use Rattle.fabric_core.specs.World.{World, is_guarded, world_of}
use Rattle.commands.specs.Isolated.{IsIsolated}
use Rattle.commands.specs.Settled.{HasStopped, Settles}
use Rattle.sweeps.specs.Sweeps.{IsSweep, Sweeps}

-- after a sweep that moves nothing, nothing can move
abbrev IsLast : Type 0
IsLast = (platform : Platform) → IsPlatform platform → (sweep : List Event) → IsSweep platform (world_of platform).agents.domains sweep → (events : List Event) → (outcomes : List Outcome) → (old new : World)
    → Run (world_of platform) events outcomes old → Sweeps sweep old false new → IsStill old × (new ≡ old)

-- a run from the start of a platform's fabric settles
pub settled_by : IsLast → (platform : Platform) (lines : List Line) (w : World) → IsPlatform platform → IsIsolated platform lines w → NeverBlocks (world_of platform) → (is_guarded (world_of platform) ≡ true → Concludes (world_of platform)) → Settles platform w
settled_by last platform lines w laws ran never concludes = record {
  empty = λ stopped. never.left ran.events ran.outcomes w ran.run (still stopped);
  consumed = λ guarded stopped. (concludes guarded).consumed ran.events ran.outcomes w ran.run (still stopped);
}
  where
    still : HasStopped platform w → IsStill w
    still stopped = (last platform laws stopped.0 stopped.1 ran.events ran.outcomes w w ran.run stopped.2).0
