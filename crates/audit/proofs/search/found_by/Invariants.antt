use Rattle.std.proofs.Common.{take}
use Rattle.std.specs.Prelude.{All, map}
use Rattle.audit.specs.Landing.{Fails}
use Rattle.audit.specs.Telling.{attempts, witness_by}
use Rattle.audit.proofs.search.found_by.Given as goal

-- what the functions so far try fails
abbrev pub invariant-loop-function : goal.invariant-loop-function
invariant-loop-function l = All (Fails l.setting.layout.now) (map (witness_by l.attacker l.victim) (attempts l.setting.layout.now l.way (take l.function-index l.functions) l.target))
