use Rattle.std.proofs.Common.{take}
use Rattle.std.specs.Prelude.{All, map}
use Rattle.audit.specs.Landing.{Fails}
use Rattle.audit.specs.Telling.{witness_by}
use Rattle.audit.proofs.search.first_of.Given as goal

-- the requests so far fail
abbrev pub invariant-loop-attack : goal.invariant-loop-attack
invariant-loop-attack l = All (Fails l.setting.layout.now) (map (witness_by l.attacker l.victim) (take l.attack-index l.attacks))
