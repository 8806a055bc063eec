-- Three queues, one for each class.
pub use Rattle.fab_types.specs.declared.class.Class.{Class}
pub use Rattle.port_queue.specs.declared.per_class.PerClass.{PerClass}

module _ {Q : Type 0} where
  abbrev pub at_class : PerClass Q → Class → Q
  at_class l Class.Posted = l.posted
  at_class l Class.NonPosted = l.non_posted
  at_class l Class.Completion = l.completion

  -- the queues, with another one of a class
  abbrev pub with_class : PerClass Q → Class → Q → PerClass Q
  with_class l Class.Posted q = record { posted = q; non_posted = l.non_posted; completion = l.completion }
  with_class l Class.NonPosted q = record { posted = l.posted; non_posted = q; completion = l.completion }
  with_class l Class.Completion q = record { posted = l.posted; non_posted = l.non_posted; completion = q }
