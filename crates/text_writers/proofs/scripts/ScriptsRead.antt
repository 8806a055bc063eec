-- The text of any commands is read as those commands.
use Rattle.std.proofs.Common.{◌≡◌, ℕ, suc, ◌+◌, ◌≤◌, cond, refl, ap, ◌∙◌, List, [], ◌∷◌, ◌++◌, length, Option, Some, None, Ok, arith}
use Rattle.std.specs.Prelude.{nat_lt, option_map}
use Rattle.std.specs.List.{All}
use Rattle.std.proofs.lemmas.Bool.{cond-false, le-ltb}
use Rattle.text.specs.Text.{is_comment, is_last, pieces}
use Rattle.text.proofs.LineLemmas.{pieces_line}
use Rattle.text.proofs.Pieces.{some-piece}
use Rattle.text.specs.Reading as lines
use Rattle.text.specs.Reading.{adds, and_on, before, read_from}
use Rattle.script.specs.Reading.{reading, said}
use Rattle.script.specs.declared.lines.Command.{Command}
use Rattle.script.specs.declared.lines.Line.{Line}
use Rattle.text_writers.specs.CommandTexts.{command_text}
use Rattle.text_writers.specs.CommandRanges.{IsInRange}
use Rattle.text_writers.specs.ScriptTexts.{numbered, script_text}
use Rattle.text_writers.proofs.scripts.CommandsRead.{command_is_line, command_read, no_comment}

command_adds : (number : ℕ) (command : Command) → IsInRange command → number ≤ 65536 → adds 65536 said number (command_text command) ≡ Some (record { number = number; command = command } ∷ [])
command_adds number command is below =
    let text = command_text command in
    cond-false (nat_lt 65536 number) None (cond (is_comment text) (Some []) (said number text)) (le-ltb 65536 number below)
    ∙ cond-false (is_comment text) (Some []) (said number text) (no_comment command)
    ∙ ap (option_map (λ c. record { number = number; command = c } ∷ [])) (command_read command is)

line_on : (number : ℕ) (command : Command) (rest : List ℕ) → IsInRange command → number ≤ 65536
    → read_from (adds 65536 said) number (pieces (command_text command ++ (10 ∷ rest))) ≡ before (record { number = number; command = command } ∷ []) (read_from (adds 65536 said) (number + 1) (pieces rest))
line_on number command rest is below =
    let more = read_from (adds 65536 said) (number + 1) (pieces rest) in
    ap (read_from (adds 65536 said) number) (pieces_line (command_text command) rest (command_is_line command is))
    ∙ cond-false (is_last (pieces rest)) _ (and_on number (adds 65536 said number (command_text command)) more) (some-piece rest)
    ∙ ap (λ (o : Option (List Line)). and_on number o more) (command_adds number command is below)

commands_read : (commands : List Command) (number : ℕ) → All IsInRange commands → number + length commands ≤ 65537 → read_from (adds 65536 said) number (pieces (script_text commands)) ≡ Ok (numbered number commands)
commands_read [] number are few = refl
commands_read (command ∷ commands) number are few =
    line_on number command (script_text commands) (are 0 command (omega arith)) (omega (arith, few))
    ∙ ap (before (record { number = number; command = command } ∷ [])) (commands_read commands (number + 1) (λ k d below. are (suc k) d (omega (arith, below))) (omega (arith, few)))

pub script_read : (commands : List Command) → All IsInRange commands → length commands ≤ 65536 → reading (script_text commands) ≡ Ok (numbered 1 commands)
unfolding reading lines.reading
script_read commands are few = commands_read commands 1 are (omega (arith, few))
