-- What waits where a port takes packets from, and which of them may leave (PCIe 4.0, 2.4.1).
use Rattle.std.specs.Prelude.{List, Option}
use Rattle.frame_log.specs.Descriptor.{Descriptor}
use Rattle.ordering.specs.Ordering.{take_one}
pub use Rattle.ordering.specs.Ordering.{Class}

abbrev pub class_of : Descriptor → Class
class_of frame = frame.head.cost.class

-- the eligible packet of a class, and what is left without it
abbrev pub eligible : Class → List Descriptor → Option (Descriptor × List Descriptor)
eligible class waiting = take_one class_of class waiting
