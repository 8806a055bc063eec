use Rattle.std.proofs.Common.{take}
use Rattle.audit.specs.Telling.{AreFound}
use Rattle.audit.proofs.search.all_found.Given as goal

-- the ways so far have what is found in them
abbrev pub invariant-loop-way : goal.invariant-loop-way
invariant-loop-way l = AreFound l.setting.layout.now l.attacker l.victim (take l.way-index l.way-items) l.all.items
