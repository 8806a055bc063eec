-- A completion for somebody below goes down again.
use Rattle.std.specs.Prelude.{◌≡◌, Bool, List, [], ◌∷◌, ◌++◌, Some}
use Rattle.frame_log.specs.Descriptor.{Descriptor}
use Rattle.lane.specs.Lanes.{Class, class_of, eligible}
use Rattle.link.specs.Channels.{count_in}
use Rattle.received.specs.Received.{is_relayed}

-- is the eligible packet of a class one that is relayed, as is said, if there is one?
abbrev pub AreRelayed : Bool → Class → List Descriptor → Type 0
AreRelayed said class waiting = (frame : Descriptor) (rest : List Descriptor) → eligible class waiting ≡ Some (frame, rest) → is_relayed frame.head.header ≡ said

-- the eligible packet of a class left what had come, and waits behind all others to be sent
pub record Relays (class : Class) (waiting waiting' egress egress' : List Descriptor) : Type 0 where
  pub frame : Descriptor
  pub taken : eligible class waiting ≡ Some (frame, waiting')
  pub put : egress' ≡ egress ++ frame ∷ []

-- no packet of the class is eligible for which the link has a place
abbrev pub HasNoneToRelay : Class → List Descriptor → List Descriptor → Type 0
HasNoneToRelay class waiting egress = (frame : Descriptor) (rest : List Descriptor) → eligible class waiting ≡ Some (frame, rest) → count_in (class_of frame) egress ≡ 16
