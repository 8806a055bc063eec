use Rattle.std.proofs.Common.{take}
use Rattle.std.specs.List.{flat_map}
use Rattle.audit.specs.Telling.{Adds, couple_of}
use Rattle.audit.proofs.search.add_pairs.Given as goal

-- the pairs of the domains so far are added
abbrev pub invariant-loop-victim : goal.invariant-loop-victim
invariant-loop-victim l = Adds l.setting.layout.now (flat_map (couple_of l.attacker) (take l.victim-index l.domains)) l.initial.pairs.items l.pairs.items
