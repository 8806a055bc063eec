-- What the definitions of a register page come to.
use Rattle.std.specs.Prelude.{◌≡◌, ◌<◌, ℕ, true, false, List, Option, Some, None}
use Rattle.fab_types.specs.declared.origin.Origin.TheVariants.{Function}
use Rattle.function.specs.declared.registers.Register.{Register}
use Rattle.function.specs.declared.registers.Register.TheVariants.{Id, Control, Status, ProgramCounter, Program, Buffer}
use Rattle.function.specs.declared.tags.OpenTag.{OpenTag}
use Rattle.function.specs.Tags.{is_open}

-- of ID, or of no register
abbrev pub IsFixed : Option Register → Type 0
IsFixed None = Unit {0}
IsFixed (Some Id) = Unit {0}
IsFixed (Some Control) = ⊥
IsFixed (Some Status) = ⊥
IsFixed (Some ProgramCounter) = ⊥
IsFixed (Some Program) = ⊥
IsFixed (Some Buffer) = ⊥

abbrev pub AllOpenBelow : List OpenTag → ℕ → ℕ → Type 0
AllOpenBelow tags function tag = (s : ℕ) → s < tag → is_open tags (Function function) s ≡ true

-- it isn't open, but all below it are; or else all of the eight are open
abbrev pub IsLowest : List OpenTag → ℕ → Option ℕ → Type 0
IsLowest tags function None = AllOpenBelow tags function 8
IsLowest tags function (Some tag) = (tag < 8) × (is_open tags (Function function) tag ≡ false) × AllOpenBelow tags function tag
