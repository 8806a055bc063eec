use Rattle.std.proofs.Common.{take}
use Rattle.domains.proofs.AlienPlaces.{Reaches}
use Rattle.domains.specs.AlienPlaces.{IsGrown}
use Rattle.domains.proofs.agents.aliens.make_places.Given as goal

-- the boxes of the host, and of the domain's functions among the lines so far, have their places
abbrev pub invariant-loop-function : goal.invariant-loop-function
invariant-loop-function l = record { grown : IsGrown l.fn.outboxes l.outboxes; reached : Reaches l.start (take l.function-index l.function-items) l.fn.outboxes l.outboxes }
