use Rattle.std.proofs.Common.{[], take}
use Rattle.std.specs.List.{flat_map}
use Rattle.audit.specs.Telling.{Adds, couples_of}
use Rattle.audit.proofs.search.all_pairs.Given as goal

-- the pairs of the domains so far are added
abbrev pub invariant-loop-attacker : goal.invariant-loop-attacker
invariant-loop-attacker l = Adds l.setting.layout.now (flat_map (couples_of l.domains) (take l.attacker-index l.domains)) [] l.pairs.items
