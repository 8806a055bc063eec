use Rattle.std.proofs.Common.{◌≡◌, take}
use Rattle.std.specs.List.{flat_map}
use Rattle.attacks.specs.Tries.{answered_by}
use Rattle.attacks.proofs.answers.answered.Given as goal

-- what the functions so far answer
abbrev pub invariant-loop-line : goal.invariant-loop-line
invariant-loop-line l = l.attacks.items ≡ flat_map (answered_by l.layout.ports l.function l.names.items) (take l.line-index l.layout.functions)
