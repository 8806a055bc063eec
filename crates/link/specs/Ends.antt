-- The two ends of a direction, as contracts see them: what waits there, and the counters of the end (PCIe 4.0, 2.6.1).
use Rattle.credit.specs.Limits.{Allotment, Ledger}
use Rattle.lane.specs.Queues.{Waiting}

pub record EgressView : Type 0 where
  pub queue : Waiting
  pub sender : Ledger

pub record IngressView : Type 0 where
  pub queue : Waiting
  pub receiver : Allotment
