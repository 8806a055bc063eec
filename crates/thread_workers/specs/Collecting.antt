-- A packet comes from another port of the switch, or from the port itself, to be sent.
use Rattle.std.specs.Prelude.{◌≡◌, ℕ, List, [], ◌∷◌, ◌++◌}
use Rattle.credit.specs.Limits.{Ledger}
use Rattle.lane.specs.Queues.{frames_of}
use Rattle.link.specs.Ends.{EgressView}
use Rattle.switch_output.specs.Vetted.{Vetted}
use Rattle.switch_output.specs.declared.vetted_frame.VettedFrame.{VettedFrame}
use Rattle.thread_rings.specs.Moved.{one_more, put_by, taken_by}
use Rattle.thread_rings.specs.declared.ends.Ends.{Ends}

-- the oldest packet of the ring of this end was taken, and waits behind the others in the egress queue
pub record Collects (end : ℕ) (pairs pairs' : Ends VettedFrame) (egress egress' : EgressView) : Type 0 where
  pub packet : Vetted
  pub taken : taken_by pairs' ≡ one_more (taken_by pairs) end packet
  pub put : frames_of egress'.queue.queue.waiting ≡ frames_of egress.queue.queue.waiting ++ packet.frame ∷ []

-- nothing moved
pub record Leaves (pairs pairs' : Ends VettedFrame) (egress egress' : EgressView) : Type 0 where
  pub taken : taken_by pairs' ≡ taken_by pairs
  pub waiting : frames_of egress'.queue.queue.waiting ≡ frames_of egress.queue.queue.waiting
