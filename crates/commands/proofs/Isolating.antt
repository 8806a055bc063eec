-- The events of a script's lines, as one run.
use Rattle.std.proofs.Common.{◌≡◌, ℕ, zero, suc, ◌≤◌, Bool, true, false, List, [], ◌∷◌, ◌++◌, refl, arith}
use Rattle.std.specs.Prelude.{MatchBool}
use Rattle.fab_types.specs.declared.outcome.Outcome.{Outcome}
use Rattle.platform.specs.Platform.{Platform}
use Rattle.script.specs.declared.lines.Command.{Command}
use Rattle.script.specs.declared.lines.Command.TheVariants as command
use Rattle.script.specs.declared.lines.Line.{Line}
use Rattle.fabric_core.specs.declared.event.Event.{Event}
use Rattle.fabric_core.specs.declared.event.Event.TheVariants.{Submit, Tick, Mmio}
use Rattle.fabric_core.specs.Runs.{Run}
use Rattle.fabric_core.specs.TakenOut.{NoneCanTell}
use Rattle.fabric_core.specs.World.{World, is_guarded, world_of}
use Rattle.commands.specs.Driving.{Begins, Does, Drives, IsDriven}
use Rattle.commands.specs.Isolated.{AllMake, IsIsolated, Makes, repeated}
use Rattle.sweeps.specs.Sweeps.{Sweeps, SweepsUpTo}
use Rattle.sweeps.proofs.Running.{run_then}

-- the events of a run that have outcomes
abbrev Runs : World → List Event → World → Type 0
Runs w events v = (outcomes : List Outcome) × Run w events outcomes v

runs_then : (w v u : World) (es fs : List Event) → Runs w es v → Runs v fs u → Runs w (es ++ fs) u
runs_then w v u es fs one other = (one.0 ++ other.0, run_then w v u es fs one.0 other.0 one.1 other.1)

-- at most so many sweeps
abbrev SweepsRun : List Event → ℕ → World → World → Type 0
SweepsRun sweep most w v = (times : ℕ) × (times ≤ most) × Runs w (repeated times sweep) v

after_sweep : (sweep : List Event) (most : ℕ) (w mid v : World) (moved : Bool) → Sweeps sweep w moved mid → ((u : World) → SweepsUpTo sweep most mid u → SweepsRun sweep most mid u)
    → MatchBool moved (SweepsUpTo sweep most mid v) (v ≡ mid) → SweepsRun sweep (suc most) w v
after_sweep sweep most w mid v true one more rest =
    let others = more v rest in
    (suc others.0, omega arith, runs_then w mid v sweep (repeated others.0 sweep) (one.outcomes, one.run) others.2)
after_sweep sweep most w mid v false one more rest =
    (suc zero, omega arith, runs_then w mid v sweep [] (one.outcomes, one.run) ([], rest))

sweeps_run : (sweep : List Event) (most : ℕ) (w v : World) → SweepsUpTo sweep most w v → SweepsRun sweep most w v
sweeps_run sweep zero w v same = (zero, omega arith, ([], same))
sweeps_run sweep (suc most) w v all = after_sweep sweep most w all.1 v all.0 all.2 (λ u h. sweeps_run sweep most all.1 u h) all.3

-- what a line does is a run of its events
abbrev LineRuns : List Event → Command → World → World → Type 0
LineRuns sweep command w v = (events : List Event) × Makes sweep command events × Runs w events v

begin_runs : (line : ℕ) (event : Event) (w v : World) (text : List ℕ) → Begins line w event v text → Runs w (event ∷ []) v
begin_runs line event w v text begins = (begins.outcome ∷ [], (v, begins.step, refl))

line_runs : (sweep : List Event) (line : ℕ) (command : Command) (w v : World) (text : List ℕ) → Does sweep line w command v text → LineRuns sweep command w v
line_runs sweep line (command.Submit function bytes) w v text does = (Submit function bytes ∷ [], refl, begin_runs line (Submit function bytes) w v text does)
line_runs sweep line (command.Tick function) w v text does = (Tick function ∷ [], refl, begin_runs line (Tick function) w v text does)
line_runs sweep line (command.Mmio domain access) w v text does = (Mmio domain access ∷ [], refl, begin_runs line (Mmio domain access) w v text does)
line_runs sweep line (command.Sweep most) w v text does =
    let all = sweeps_run sweep most w v does.0 in
    (repeated all.0 sweep, (all.0, all.1, refl), all.2)

-- and so are all lines in turn
abbrev LinesRun : List Event → List Line → World → World → Type 0
LinesRun sweep lines w v = (events : List Event) × AllMake sweep lines events × Runs w events v

pub lines_run : (sweep : List Event) (lines : List Line) (w v : World) (text : List ℕ) → Drives sweep w lines v text → LinesRun sweep lines w v
lines_run sweep [] w v text drives = ([], refl, ([], drives.0))
lines_run sweep (line ∷ lines) w v text drives =
    let first = line_runs sweep line.number line.command w drives.0 drives.1 drives.3 in
    let rest = lines_run sweep lines drives.0 v drives.2 drives.4 in
    (first.0 ++ rest.0, (first.0, rest.0, first.1, rest.1, refl), runs_then w drives.0 v first.0 rest.0 first.2 rest.2)

-- what a script drove is a run, which no domain can tell
pub isolated_by : (platform : Platform) (lines : List Line) (w : World) (text : List ℕ) → IsDriven platform lines w text → (is_guarded (world_of platform) ≡ true → NoneCanTell (world_of platform)) → IsIsolated platform lines w
isolated_by platform lines w text driven none =
    let all = lines_run driven.events lines (world_of platform) w text driven.drives in record {
      sweep = driven.events;
      is_sweep = driven.sweep;
      events = all.0;
      made = all.1;
      outcomes = all.2.0;
      run = all.2.1;
      isolated = λ guarded domain. (none guarded).taken_out all.0 all.2.0 w all.2.1 domain;
    }
