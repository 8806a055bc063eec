-- A text is what its lines say, or it has a first faulty line.
use Rattle.std.specs.Prelude.{◌≡◌, ℕ, ◌+◌, ◌==◌, List, [], ◌∷◌, ◌++◌, Bool, true, nat_lt, length, Option, Some, None, Result, Ok, Err, MatchResult, Vec, ◌⊎◌, if◌then◌else◌}
use Rattle.fab_types.specs.declared.faults.script.ScriptCause.TheVariants as cause
use Rattle.fab_types.specs.declared.faults.script.ScriptFault.{ScriptFault}
use Rattle.text.specs.Text.{pieces, is_last, is_comment}

-- What the line of this number adds: none that is behind the last, a comment nothing, each other line what
-- it says. A line that says nothing is faulty.
abbrev pub adds : {T : Type 0} → ℕ → (ℕ → List ℕ → Option (List T)) → ℕ → List ℕ → Option (List T)
adds last said number line =
    if nat_lt last number then None
    else (if is_comment line then Some [] else said number line)

abbrev pub fault_at : ℕ → ScriptFault
fault_at number = record { cause = cause.Line; line = number }

-- these items, and behind them those that follow
abbrev pub before : {T : Type 0} → List T → Result (List T) ScriptFault → Result (List T) ScriptFault
before items (Ok more) = Ok (items ++ more)
before items (Err fault) = Err fault

abbrev pub and_on : {T : Type 0} → ℕ → Option (List T) → Result (List T) ScriptFault → Result (List T) ScriptFault
and_on number None more = Err (fault_at number)
and_on number (Some items) more = before items more

-- the lines from this number on; the last piece is no line, and nothing stands there
abbrev pub read_from : {T : Type 0} → (ℕ → List ℕ → Option (List T)) → ℕ → List (List ℕ) → Result (List T) ScriptFault
read_from added number [] = Err (fault_at number)
read_from added number (line ∷ rest) =
    if is_last rest then (if length line == 0 then Ok [] else Err (fault_at number))
    else and_on number (added number line) (read_from added (number + 1) rest)

-- what a text with at most so many lines is: what its lines say, or its first faulty line
unfoldable pub reading : {T : Type 0} → ℕ → (ℕ → List ℕ → Option (List T)) → List ℕ → Result (List T) ScriptFault
reading last said text = read_from (adds last said) 1 (pieces text)

-- no line up to this one is faulty
abbrev pub is_sound : {T : Type 0} → Result (List T) ScriptFault → ℕ → Bool
is_sound (Ok items) number = true
is_sound (Err fault) number = nat_lt number fault.line

-- Why a text was not read: it has this first faulty line, or memory was refused at a line up to which none
-- is faulty.
abbrev pub IsFault : {T : Type 0} → Result (List T) ScriptFault → ScriptFault → Type 0
IsFault expected fault = ((fault.cause ≡ cause.NoMemory) × (is_sound expected fault.line ≡ true)) ⊎ (expected ≡ Err fault)

-- an answer is what a text is, or the fault why not
abbrev pub IsReading : {T : Type 0} → Result (List T) ScriptFault → Result (List T) ScriptFault → Type 0
IsReading expected answer = MatchResult answer (λ items. expected ≡ Ok items) (IsFault expected)

-- what was read, as a list
abbrev pub list_of : {T Z : Type 0} → Result (Vec T Z) ScriptFault → Result (List T) ScriptFault
list_of (Ok items) = Ok items.items
list_of (Err fault) = Err fault
