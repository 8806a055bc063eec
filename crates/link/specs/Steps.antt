-- The steps of a link, each over the parts that it changes.
use Rattle.std.specs.Prelude.{◌≡◌, List, [], ◌∷◌, ◌++◌, Some}
use Rattle.frame_log.specs.Descriptor.{Descriptor}
use Rattle.credit.specs.Kinds.{Class}
use Rattle.credit.specs.Limits.{Ledger, HasRoom, counted}
use Rattle.lane.specs.Lanes.{eligible}

-- the eligible packet of a class left its queue, and spent its credits
pub record Sends (class : Class) (egress : List Descriptor) (sender : Ledger) (frame : Descriptor) (egress' : List Descriptor) (sender' : Ledger) : Type 0 where
  pub taken : eligible class egress ≡ Some (frame, egress')
  pub room : HasRoom sender frame.head.cost
  pub spends : sender' ≡ record sender { credits_consumed = counted sender.credits_consumed frame.head.cost }

-- the eligible packet of a class went on the wire
pub record Transmits (class : Class) (egress : List Descriptor) (sender : Ledger) (wire egress' : List Descriptor) (sender' : Ledger) (wire' : List Descriptor) : Type 0 where
  pub frame : Descriptor
  pub sends : Sends class egress sender frame egress' sender'
  pub behind : wire' ≡ wire ++ frame ∷ []

-- no packet of the class is eligible for which there are credits
abbrev pub IsStuck : Class → List Descriptor → Ledger → Type 0
IsStuck class egress sender = (frame : Descriptor) (rest : List Descriptor) → eligible class egress ≡ Some (frame, rest) → HasRoom sender frame.head.cost → ⊥

-- the oldest packet of the wire reached the receiver
pub record Delivers (wire ingress wire' ingress' : List Descriptor) : Type 0 where
  pub frame : Descriptor
  pub oldest : wire ≡ frame ∷ wire'
  pub behind : ingress' ≡ ingress ++ frame ∷ []
