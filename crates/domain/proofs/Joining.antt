-- What a begin leaves in flight: all that was, and the packet that it emits, if any.
use Rattle.std.proofs.Common.{◌≡◌, ℕ, List, Option, Some, None, refl, subst}
use Rattle.fab_types.specs.declared.faults.begin.MmioFault.{MmioFault}
use Rattle.fab_types.specs.declared.faults.begin.SubmitFault.{SubmitFault}
use Rattle.fab_types.specs.declared.faults.begin.TickFault.{TickFault}
use Rattle.function.specs.Plans.{plan_of}
use Rattle.host_memory.specs.Pages.{page_of}
use Rattle.platform.specs.Share.{Share}
use Rattle.platform.specs.Owners.{bar_of}
use Rattle.fab_types.specs.declared.host_access.HostAccess.{HostAccess}
use Rattle.domain.specs.declared.entry.Entry.TheVariants.{Submit, Tick, Mmio}
use Rattle.domain_state.specs.HostAccesses.{mmio_fault, mmio_unless, mmio_with, tag_for}
use Rattle.domain.specs.Machine.{change}
use Rattle.domain_state.specs.State.{Alone, Change}
use Rattle.domain.specs.Submits.{submit_fault, submit_unless}
use Rattle.domain.specs.Ticks.{sent_by, tick_fault, tick_unless, ticked, ticks, ticks_by}
use Rattle.domain.proofs.Leaving.{joined, replied_flight}

abbrev some : {A : Type 0} → A → Option A
some x = Some x

some_is : {A : Type 0} (x y : A) → some x ≡ some y → x ≡ y
some_is x y e = cc

-- what was emitted joins what was in flight
abbrev Joins : Alone → Change → Type 0
Joins s c = c.state.flight ≡ joined s.flight c.emission

submits : (s : Alone) (f : ℕ) (b : List ℕ) (fault : Option SubmitFault) (c : Change) → submit_unless fault s f b ≡ Some c → Joins s c
submits s f b None c h = subst (Joins s) (some_is _ c h) refl
submits s f b (Some fault) c h = absurd cc

pub submit_flight : (share : Share) (s : Alone) (f : ℕ) (b : List ℕ) (c : Change) → change share s (Submit f b) ≡ Some c → c.state.flight ≡ joined s.flight c.emission
submit_flight share s f b c h = submits s f b (submit_fault share s f b) c h

ticks_on : (s : Alone) (f : ℕ) (page : Option (List ℕ)) (c : Change) → ticks s f page ≡ Some c → Joins s c
ticks_on s f None c h = absurd cc
ticks_on s f (Some page) c h =
    let plan = plan_of f page s.open_tags in
    subst (Joins s) (some_is (ticks_by s f plan) c h) (replied_flight (ticked s f plan) (sent_by f plan))

ticks_unless : (s : Alone) (f : ℕ) (fault : Option TickFault) (c : Change) → tick_unless fault s f ≡ Some c → Joins s c
ticks_unless s f None c h = ticks_on s f (page_of s.registers f) c h
ticks_unless s f (Some fault) c h = absurd cc

pub tick_flight : (share : Share) (s : Alone) (f : ℕ) (c : Change) → change share s (Tick f) ≡ Some c → c.state.flight ≡ joined s.flight c.emission
tick_flight share s f c h = ticks_unless s f (tick_fault share s f) c h

accesses : (share : Share) (s : Alone) (x : HostAccess) (tag bar : Option ℕ) (c : Change) → mmio_with share s x tag bar ≡ Some c → Joins s c
accesses share s x None bar c h = absurd cc
accesses share s x (Some tag) None c h = absurd cc
accesses share s x (Some tag) (Some bar) c h = subst (Joins s) (some_is _ c h) refl

accesses_unless : (share : Share) (s : Alone) (x : HostAccess) (fault : Option MmioFault) (c : Change) → mmio_unless fault share s x ≡ Some c → Joins s c
accesses_unless share s x None c h = accesses share s x (tag_for s.open_tags share.domain x.operation) (bar_of share.functions x.function) c h
accesses_unless share s x (Some fault) c h = absurd cc

pub mmio_flight : (share : Share) (s : Alone) (x : HostAccess) (c : Change) → change share s (Mmio x) ≡ Some c → c.state.flight ≡ joined s.flight c.emission
mmio_flight share s x c h = accesses_unless share s x (mmio_fault share s x) c h
