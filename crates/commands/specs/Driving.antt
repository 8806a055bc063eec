-- A fabric that is driven by the lines of a script.
use Rattle.std.specs.Prelude.{◌≡◌, ℕ, false, List, [], ◌∷◌, ◌++◌}
use Rattle.fab_types.specs.declared.outcome.Outcome.{Outcome}
use Rattle.fab_types.specs.declared.outcome.Outcome.TheVariants.{Refused}
use Rattle.platform.specs.Platform.{Platform}
use Rattle.script.specs.declared.lines.Command.{Command}
use Rattle.script.specs.declared.lines.Command.TheVariants as command
use Rattle.script.specs.declared.lines.Line.{Line}
use Rattle.fabric_core.specs.declared.event.Event.{Event}
use Rattle.fabric_core.specs.declared.event.Event.TheVariants.{Submit, Tick, Mmio}
use Rattle.fabric_core.specs.Events.{StepsTo}
use Rattle.fabric_core.specs.World.{World, world_of}
use Rattle.reports.specs.Report.{refusal_line}
use Rattle.sweeps.specs.Sweeps.{IsSweep, SweepsUpTo, lacks_memory}

-- what is written of a begin by what came of it: a line where it was refused
abbrev pub refused_text : ℕ → Outcome → List ℕ
refused_text line (Refused fault) = refusal_line line fault
refused_text line outcome = []

-- the event was made, memory was not lacking, and this was written of it
pub record Begins (line : ℕ) (old : World) (event : Event) (new : World) (text : List ℕ) : Type 0 where
  pub outcome : Outcome
  pub step : StepsTo old event outcome new
  pub memory : lacks_memory outcome ≡ false
  pub written : text ≡ refused_text line outcome

-- what the command of a line of a script does, and what is written of it, by the events of a sweep
abbrev pub Does : List Event → ℕ → World → Command → World → List ℕ → Type 0
Does sweep line old (command.Submit function bytes) new text = Begins line old (Submit function bytes) new text
Does sweep line old (command.Tick function) new text = Begins line old (Tick function) new text
Does sweep line old (command.Mmio domain access) new text = Begins line old (Mmio domain access) new text
Does sweep line old (command.Sweep most) new text = SweepsUpTo sweep most old new × (text ≡ [])

-- what all lines do in turn, and what is written of them
abbrev pub Drives : List Event → World → List Line → World → List ℕ → Type 0
Drives sweep old [] new text = (new ≡ old) × (text ≡ [])
Drives sweep old (line ∷ lines) new text =
    (mid : World) × (first rest : List ℕ) × Does sweep line.number old line.command mid first × Drives sweep mid lines new rest × (text ≡ first ++ rest)

-- the fabric of a platform is driven by these lines from its start, and this was written of its begins
pub record IsDriven (platform : Platform) (lines : List Line) (new : World) (text : List ℕ) : Type 0 where
  pub events : List Event
  pub sweep : IsSweep platform (world_of platform).agents.domains events
  pub drives : Drives events (world_of platform) lines new text
