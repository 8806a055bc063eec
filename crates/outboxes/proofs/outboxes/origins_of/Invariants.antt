use Rattle.std.proofs.Common.{◌≡◌, map, take}
use Rattle.outboxes.proofs.outboxes.origins_of.Given as goal

abbrev pub invariant-loop-outbox : goal.invariant-loop-outbox
invariant-loop-outbox l = l.origins.items ≡ map (λ box. box.origin) (take l.outbox-index l.boxes)
