-- The commands of a script that is read are in range, and few enough, so they are read from their own text.
use Rattle.std.proofs.Common.{◌≡◌, ℕ, zero, suc, ◌+◌, ◌-◌, ◌≤◌, ◌==◌, Bool, true, false, cond, refl, subst, List, [], ◌∷◌, ◌++◌, length, Option, Some, None, Ok, Err, arith}
use Rattle.std.specs.Prelude.{Result, nat_lt}
use Rattle.std.specs.List.{All}
use Rattle.std.proofs.lemmas.Bool.Decides.{nat_tests}
use Rattle.std.proofs.lemmas.List.{length-map}
use Rattle.fab_types.specs.declared.faults.script.ScriptFault.{ScriptFault}
use Rattle.text.specs.Text.{is_comment, is_last, pieces}
use Rattle.text.specs.Reading as lines
use Rattle.text.specs.Reading.{adds, and_on, before, fault_at, read_from}
use Rattle.script.specs.Commands.{command_of}
use Rattle.script.specs.Reading.{reading, said}
use Rattle.script.specs.declared.lines.Command.{Command}
use Rattle.script.specs.declared.lines.Line.{Line}
use Rattle.text_writers.proofs.lines.ReadRanges.{mapped-from}
use Rattle.text_writers.specs.CommandRanges.{IsInRange}
use Rattle.text_writers.specs.ScriptTexts.{commands_of, numbered, script_text}
use Rattle.text_writers.proofs.scripts.CommandsInRange.{command_range}
use Rattle.text_writers.proofs.scripts.ScriptsRead.{script_read}

record AreGood (number : ℕ) (script : List Line) : Type 0 where
  range : All IsInRange (commands_of script)
  few : length script ≤ 65537 - number

none-good : (number : ℕ) → AreGood number []
none-good number = record { range = λ i d below. absurd (omega arith); few = omega arith }

all-cons : (command : Command) (commands : List Command) → IsInRange command → All IsInRange commands → All IsInRange (command ∷ commands)
all-cons command commands h all zero d below = h
all-cons command commands h all (suc i) d below = all i d (omega (arith, below))

one-good : (number : ℕ) (script : List Line) (line : Line) → number ≤ 65536 → IsInRange line.command → AreGood (number + 1) script → AreGood number (line ∷ script)
one-good number script line below h good = record { range = all-cons line.command (commands_of script) h good.range; few = let few = good.few in omega (arith, below, few) }

comment-good : (number : ℕ) (script : List Line) → AreGood (number + 1) script → AreGood number script
comment-good number script good = record { range = good.range; few = let few = good.few in omega (arith, few) }

within : (number : ℕ) → nat_lt 65536 number ≡ false → number ≤ 65536
within number h = grind (arith, nat_tests)

-- what a line adds, before what follows
added-good : (number : ℕ) (text : List ℕ) (items script : List Line) (late comment : Bool) → nat_lt 65536 number ≡ late → cond late None (cond comment (Some []) (said number text)) ≡ Some items → AreGood (number + 1) script
    → AreGood number (items ++ script)
added-good number text items script true comment e h good = absurd cc
added-good number text items script false true e h good = let none : [] ≡ items = cc h in subst (λ (items : List Line). AreGood number (items ++ script)) none (comment-good number script good)
added-good number text items script false false e h good =
    let m = mapped-from (command_of text) (λ command. record { number = number; command = command } ∷ []) items h in
    subst (λ (items : List Line). AreGood number (items ++ script)) m.gives (one-good number script (record { number = number; command = m.it }) (within number e) (command_range text m.it m.is) good)

before-good : (number : ℕ) (items script : List Line) (r : Result (List Line) ScriptFault) → ((more : List Line) → r ≡ Ok more → AreGood number (items ++ more)) → before items r ≡ Ok script → AreGood number script
before-good number items script (Ok more) h e = let same : items ++ more ≡ script = cc e in subst (AreGood number) same (h more refl)
before-good number items script (Err fault) h e = absurd cc

and-good : (number : ℕ) (text : List ℕ) (script : List Line) (o : Option (List Line)) (r : Result (List Line) ScriptFault) → adds 65536 said number text ≡ o → ((more : List Line) → r ≡ Ok more → AreGood (number + 1) more) → and_on number o r ≡ Ok script → AreGood number script
and-good number text script None r e h is = absurd cc
and-good number text script (Some items) r e h is = before-good number items script r (λ more found. added-good number text items more (nat_lt 65536 number) (is_comment text) refl e (h more found)) is

end-good : (number : ℕ) (script : List Line) (b : Bool) → cond b (Ok []) (Err (fault_at number)) ≡ Ok script → AreGood number script
end-good number script true e = let none : [] ≡ script = cc e in subst (AreGood number) none (none-good number)
end-good number script false e = absurd cc

line-or-end : (number : ℕ) (text : List ℕ) (script : List Line) (last : Bool) (r : Result (List Line) ScriptFault) → ((more : List Line) → r ≡ Ok more → AreGood (number + 1) more)
    → cond last (cond (length text == 0) (Ok []) (Err (fault_at number))) (and_on number (adds 65536 said number text) r) ≡ Ok script → AreGood number script
line-or-end number text script true r h e = end-good number script (length text == 0) e
line-or-end number text script false r h e = and-good number text script (adds 65536 said number text) r refl h e

pieces-good : (texts : List (List ℕ)) (number : ℕ) (script : List Line) → read_from (adds 65536 said) number texts ≡ Ok script → AreGood number script
pieces-good [] number script e = absurd cc
pieces-good (text ∷ rest) number script e =
    line-or-end number text script (is_last rest) (read_from (adds 65536 said) (number + 1) rest) (λ more found. pieces-good rest (number + 1) more found) e

reading-good : (text : List ℕ) (script : List Line) → reading text ≡ Ok script → AreGood 1 script
unfolding reading lines.reading
reading-good text script e = pieces-good (pieces text) 1 script e

pub scripts_good : (text : List ℕ) (script : List Line) → reading text ≡ Ok script → All IsInRange (commands_of script) × (length script ≤ 65536)
scripts_good text script e = let good = reading-good text script e in let few = good.few in (good.range, omega (arith, few))

pub own_text : (text : List ℕ) (script : List Line) → reading text ≡ Ok script → reading (script_text (commands_of script)) ≡ Ok (numbered 1 (commands_of script))
own_text text script e =
    let good = scripts_good text script e in
    let few = good.1 in
    let same = length-map script (λ (line : Line). line.command) in
    script_read (commands_of script) good.0 (omega (arith, few, same))
