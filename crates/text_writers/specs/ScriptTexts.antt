-- The text of a whole script, and what its lines are.
use Rattle.std.specs.Prelude.{ℕ, ◌+◌, List, [], ◌∷◌, ◌++◌, map}
use Rattle.script.specs.declared.lines.Command.{Command}
use Rattle.script.specs.declared.lines.Line.{Line}
use Rattle.text_writers.specs.CommandTexts.{command_text}

-- each command on a line of its own, which a line feed ends
abbrev pub script_text : List Command → List ℕ
script_text [] = []
script_text (command ∷ commands) = command_text command ++ (10 ∷ script_text commands)

-- the commands with the numbers of their lines, from this one on
abbrev pub numbered : ℕ → List Command → List Line
numbered number [] = []
numbered number (command ∷ commands) = record { number = number; command = command } ∷ numbered (number + 1) commands

-- the commands of such lines
abbrev pub commands_of : List Line → List Command
commands_of lines = map (λ (line : Line). line.command) lines
