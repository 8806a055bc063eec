-- What waits where a port takes packets from.
use Rattle.std.proofs.Common.{◌≡◌, List, Some}
use Rattle.frame_log.specs.Descriptor.{Descriptor}
use Rattle.ordering.proofs.Leaving.{taken_leaves}
use Rattle.lane.specs.Lanes.{Class, class_of, eligible}

-- the eligible packet of a class is of that class
pub class_of-taken : (c : Class) (ws rest : List Descriptor) (f : Descriptor) → eligible c ws ≡ Some (f, rest) → class_of f ≡ c
class_of-taken c ws rest f e = (taken_leaves class_of c ws f rest e).of_class
