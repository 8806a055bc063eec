-- What is answered about a part of a text.
use Rattle.std.specs.Prelude.{◌≡◌, List, Option, Some, None, IsSome, Result, MatchResult, option_to_list}
use Rattle.fab_types.specs.declared.faults.script.ScriptCause.{ScriptCause}
use Rattle.fab_types.specs.declared.faults.script.ScriptCause.TheVariants.{Line, NoMemory}

-- it is faulty where it says nothing; memory may be refused where it says something
abbrev pub IsCause : {T : Type 0} → Option T → ScriptCause → Type 0
IsCause expected Line = expected ≡ None
IsCause expected NoMemory = IsSome expected

-- the answer is what the part says, or the cause why there is none
abbrev pub IsRead : {T : Type 0} → Option T → Result T ScriptCause → Type 0
IsRead expected answer = MatchResult answer (λ value. expected ≡ Some value) (IsCause expected)

-- the same of a line, which says one item or no item
abbrev pub IsItem : {T : Type 0} → Option (List T) → Result (Option T) ScriptCause → Type 0
IsItem expected answer = MatchResult answer (λ item. expected ≡ Some (option_to_list item)) (IsCause expected)
