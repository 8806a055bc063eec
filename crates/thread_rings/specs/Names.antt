-- What tells one ring from another, whatever goes through it. The two ends of a ring have one name: that they are a pair
-- is that their names are equal.
use Rattle.std.specs.declared.alloc.Global.{Global}
use denote.RawPtr.{Ptr}
use Rattle.rtrb.specs.Shared.{Names}
use Rattle.rtrb.specs.declared.producer.Producer.{Producer}
use Rattle.rtrb.specs.declared.consumer.Consumer.{Consumer}

pub record RingName : Type 0 where
  pub words : Ptr
  pub slots : Ptr
  pub names : Names
  pub heap : Global

module _ {T P : Type 0} where
  abbrev pub out_name : Producer T Global P → RingName
  out_name p = record { words = p.end.words; slots = p.end.slots; names = p.end.names; heap = p.end.heap }

  abbrev pub in_name : Consumer T Global P → RingName
  in_name c = record { words = c.end.words; slots = c.end.slots; names = c.end.names; heap = c.end.heap }
