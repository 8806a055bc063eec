-- A script text is a list of commands with the numbers of their lines, or it has a first faulty line.
use Rattle.std.specs.Prelude.{ℕ, List, [], ◌∷◌, Option, option_map, Result}
use Rattle.fab_types.specs.declared.faults.script.ScriptFault.{ScriptFault}
use Rattle.text.specs.Reading as lines
use Rattle.script.specs.declared.lines.Line.{Line}
use Rattle.script.specs.Commands.{command_of}

-- what a line says that is no comment: its command, if it has one of the forms
abbrev pub said : ℕ → List ℕ → Option (List Line)
said number line = option_map (λ command. record { number = number; command = command } ∷ []) (command_of line)

-- what a text of at most 65,536 lines is: the lines that are no comments, or its first faulty line
unfoldable pub reading : List ℕ → Result (List Line) ScriptFault
reading text = lines.reading 65536 said text
