-- What a loan of one of three queues leaves.
use Rattle.std.specs.Borrow.{Lends, Fml, RattleType, MutBor}
use Rattle.port_queue.specs.PerClass.{Class, PerClass, with_class}
use Rattle.port_queue.specs.contracts.per_class.PerClass.{the_row}

-- once the borrow ends, the queue of the class is the last one written through it
abbrev pub LendsClass : (Q : RattleType) → MutBor (PerClass Q.Denot) → Class → MutBor Q.Denot → Fml
LendsClass Q l c r = Lends (the_row Q) Q l r (λ q. with_class l.now c q)
