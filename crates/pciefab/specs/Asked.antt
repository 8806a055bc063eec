-- What each command prints and writes, and the exit status that goes with it.
use Rattle.std.specs.Prelude.{◌≡◌, ℕ, Bool, false, List, [], ◌∷◌, bytes_eq, codes}
use Rattle.command_line.specs.CommandLine.{Asked, First, Run, Alone, Journal, Replay, Threads, Draw, Explain, Import}
use Rattle.commands.specs.First.{Prints}
use Rattle.commands.specs.Runs.{AlonePrints, JournalPrints, ReplayPrints, RunPrints}
use Rattle.commands.specs.Drawn.{DrawPrints}
use Rattle.commands.specs.Explained.{Explains}
use Rattle.commands.specs.declared.import_layout.Imported.{Imported}
use Rattle.commands.specs.Imported.{ImportPrints}
use Rattle.inputs.specs.Files.{File}
use Rattle.inputs.specs.declared.fault.ExitStatus.{ExitStatus}
use Rattle.inputs.specs.declared.fault.ExitStatus.TheVariants.{Done}
use Rattle.threads_command.specs.Threads.{ThreadsPrints}

-- this is printed, no file is written, and the status is 0
abbrev pub IsDoneWith : ExitStatus → List File → Type 0 → Type 0
IsDoneWith status written prints = (status ≡ Done) × (written ≡ []) × prints

-- what a command prints that was asked for, which files it writes, and how the program ends then, where files may have these bytes
-- under these names
abbrev pub AskedDoes : (List ℕ → List ℕ → Type 0) → Asked → ExitStatus → List ℕ → List File → Type 0
AskedDoes holds (First packet) status text written = IsDoneWith status written (Prints packet text)
AskedDoes holds (Run layout script) status text written = IsDoneWith status written (RunPrints holds layout script text)
AskedDoes holds (Alone layout script number) status text written = IsDoneWith status written (AlonePrints holds layout script number text)
AskedDoes holds (Journal layout script number) status text written = IsDoneWith status written (JournalPrints holds layout script number text)
AskedDoes holds (Replay layout journal number) status text written = IsDoneWith status written (ReplayPrints holds layout journal number text)
AskedDoes holds (Threads layout script turns) status text written = IsDoneWith status written (ThreadsPrints holds layout script text)
AskedDoes holds (Draw layout) status text written = IsDoneWith status written (DrawPrints holds layout text)
AskedDoes holds (Explain layout folder groups) status text written = Explains holds layout folder groups status text written
AskedDoes holds (Import dump owners root partial) status text written = (written ≡ []) × ((made : Imported) × (status ≡ made.status) × ImportPrints holds dump owners root partial made text)

-- the first word is `import`
abbrev pub begins_with_import : List (List ℕ) → Bool
begins_with_import [] = false
begins_with_import (word ∷ words) = bytes_eq word (codes "import")
