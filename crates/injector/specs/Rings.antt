-- The ends of an injector's rings, as a contract sees them. What went through an end, and what is known to wait at it, are
-- said of the end itself: `sent` and `received` of `rtrb`.
use Rattle.std.specs.Prelude.{ℕ, Option}
use Rattle.std.specs.declared.alloc.Global.{Global}
use Rattle.fab_types.specs.declared.origin.Origin.{Origin}
use Rattle.rtrb.specs.declared.AnyItems.{AnyItems}
use Rattle.rtrb.specs.declared.consumer.Consumer.{Consumer}
use Rattle.rtrb.specs.declared.producer.Producer.{Producer}
use Rattle.domain_state.specs.State.{Delivery}
use Rattle.injector.specs.declared.begin.Begin.{Begin}
use Rattle.injector.specs.declared.begin.Numbered.{Numbered}

-- the program's ends: begins go out, records come in
pub record InjectorView : Type 0 where
  pub origin : Origin
  pub begins : Producer Begin Global Numbered
  pub records : Consumer Delivery Global AnyItems

-- the worker's end that begins come by, the begin that is held, and how many were accepted and refused
pub record BeginRingView : Type 0 where
  pub consumer : Consumer Begin Global Numbered
  pub held : Option Begin
  pub accepted : ℕ
  pub refused : ℕ

-- the worker's end that records go by, and the record that is held
pub record RecordRingView : Type 0 where
  pub producer : Producer Delivery Global AnyItems
  pub held : Option Delivery
