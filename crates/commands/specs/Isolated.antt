-- What a domain has of a fabric that a script drove, whatever the other domains do (PCIe 4.0, 6.12).
use Rattle.std.specs.Prelude.{◌≡◌, ℕ, true, zero, suc, ◌≤◌, List, [], ◌∷◌, ◌++◌}
use Rattle.fab_types.specs.declared.outcome.Outcome.{Outcome}
use Rattle.platform.specs.Platform.{Platform}
use Rattle.script.specs.declared.lines.Command.{Command}
use Rattle.script.specs.declared.lines.Command.TheVariants as command
use Rattle.script.specs.declared.lines.Line.{Line}
use Rattle.fabric_core.specs.declared.event.Event.{Event}
use Rattle.fabric_core.specs.declared.event.Event.TheVariants.{Submit, Tick, Mmio}
use Rattle.fabric_core.specs.Runs.{Run}
use Rattle.fabric_core.specs.TakenOut.{CannotTell}
use Rattle.fabric_core.specs.World.{World, is_guarded, world_of}
use Rattle.sweeps.specs.Sweeps.{IsSweep}

-- these events so many times
abbrev pub repeated : ℕ → List Event → List Event
repeated zero events = []
repeated (suc times) events = events ++ repeated times events

-- the events that the command of a line makes: its begin, or sweeps, at most as many as it asks for
abbrev pub Makes : List Event → Command → List Event → Type 0
Makes sweep (command.Submit function bytes) events = events ≡ Submit function bytes ∷ []
Makes sweep (command.Tick function) events = events ≡ Tick function ∷ []
Makes sweep (command.Mmio domain access) events = events ≡ Mmio domain access ∷ []
Makes sweep (command.Sweep most) events = (times : ℕ) × (times ≤ most) × (events ≡ repeated times sweep)

-- and those of all lines in turn
abbrev pub AllMake : List Event → List Line → List Event → Type 0
AllMake sweep [] events = events ≡ []
AllMake sweep (line ∷ lines) events = (first rest : List Event) × Makes sweep line.command first × AllMake sweep lines rest × (events ≡ first ++ rest)

-- The fabric is a run of the events of these lines from its start; and where its layout is guarded, no domain can tell that
-- run from the one that is left when all other domains' events are taken out
pub record IsIsolated (platform : Platform) (lines : List Line) (w : World) : Type 0 where
  pub sweep : List Event
  pub is_sweep : IsSweep platform (world_of platform).agents.domains sweep
  pub events : List Event
  pub made : AllMake sweep lines events
  pub outcomes : List Outcome
  pub run : Run (world_of platform) events outcomes w
  pub isolated : is_guarded (world_of platform) ≡ true → (domain : ℕ) → CannotTell domain (world_of platform) events outcomes w
