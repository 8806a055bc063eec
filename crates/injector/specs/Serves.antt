-- What serving does to a domain and to a ring of begins.
use Rattle.std.specs.Prelude.{◌≡◌, ◌+◌, ◌⊎◌, Bool, true, false, Option, Some, None, [], option_map}
use Rattle.fab_types.specs.declared.faults.begin.BeginFault.{BeginFault}
use Rattle.fab_types.specs.declared.faults.begin.BeginFault.TheVariants as fault
use Rattle.fab_types.specs.declared.faults.begin.SubmitFault.TheVariants as submit
use Rattle.fab_types.specs.declared.faults.begin.TickFault.TheVariants as tick
use Rattle.fab_types.specs.declared.faults.begin.MmioFault.TheVariants as mmio
use Rattle.frame_log.specs.Descriptor.{Descriptor}
use Rattle.rtrb.specs.Ring.{received, known_items}
use Rattle.domain_state.specs.HostAccesses.{mmio_fault}
use Rattle.domain.specs.declared.entry.Entry.{Entry}
use Rattle.domain.specs.declared.entry.Entry.TheVariants as entry
use Rattle.domain.specs.Domains.{DomainView, Makes}
use Rattle.domain.specs.Submits.{submit_fault}
use Rattle.domain.specs.Ticks.{tick_fault}
use Rattle.injector.specs.declared.begin.Ask.{Ask}
use Rattle.injector.specs.declared.begin.Ask.TheVariants.{Submit, Tick, Mmio}
use Rattle.injector.specs.declared.begin.Begin.{Begin}
use Rattle.injector.specs.declared.begin_ring.BeginRing.{BeginRing}
use Rattle.injector.specs.Begins.{IsNext}

-- the entry of the journal that it asks for
abbrev pub entry_of : Ask → Entry
entry_of (Submit function bytes) = entry.Submit function bytes.items
entry_of (Tick function) = entry.Tick function
entry_of (Mmio access) = entry.Mmio access

-- the first refusal that applies in this state of the domain, memory aside
abbrev pub begin_fault : DomainView → Ask → Option BeginFault
begin_fault d (Submit function bytes) = option_map (λ f. fault.Submit f) (submit_fault d.share d.state function bytes.items)
begin_fault d (Tick function) = option_map (λ f. fault.Tick f) (tick_fault d.share d.state function)
begin_fault d (Mmio access) = option_map (λ f. fault.Mmio f) (mmio_fault d.share d.state access)

-- the fault of its call where memory was refused
abbrev pub memory_fault : Ask → BeginFault
memory_fault (Submit function bytes) = fault.Submit submit.NoMemory
memory_fault (Tick function) = fault.Tick tick.NoMemory
memory_fault (Mmio access) = fault.Mmio mmio.NoMemory

abbrev pub is_memory_fault : BeginFault → Bool
is_memory_fault (fault.Submit submit.NoMemory) = true
is_memory_fault (fault.Submit _) = false
is_memory_fault (fault.Tick tick.NoMemory) = true
is_memory_fault (fault.Tick _) = false
is_memory_fault (fault.Mmio mmio.NoMemory) = true
is_memory_fault (fault.Mmio _) = false

-- There was no begin: none is held, and the ring is known to have none.
pub record IsIdle (d : DomainView) (ring : BeginRing) (d' : DomainView) (ring' : BeginRing) : Type 0 where
  pub domain : d' ≡ d
  pub held : (ring.held ≡ None) × (ring'.held ≡ None)
  pub taken : received ring'.consumer ≡ received ring.consumer
  pub counts : (ring'.accepted ≡ ring.accepted) × (ring'.refused ≡ ring.refused)
  pub empty : known_items ring'.consumer ≡ []

-- The next begin was accepted, by the one entry that it asks for.
pub record Accepts (d : DomainView) (ring : BeginRing) (d' : DomainView) (ring' : BeginRing) (sent : Option Descriptor) : Type 0 where
  pub begin : Begin
  pub next : IsNext ring.held (received ring.consumer) (received ring'.consumer) begin
  pub makes : Makes d (entry_of begin.what) d' sent
  pub held : ring'.held ≡ None
  pub counts : (ring'.accepted ≡ ring.accepted + 1) × (ring'.refused ≡ ring.refused)

abbrev pub Serves : DomainView → BeginRing → DomainView → BeginRing → Option Descriptor → Type 0
Serves d ring d' ring' sent = ((sent ≡ None) × IsIdle d ring d' ring') ⊎ Accepts d ring d' ring' sent

-- The next begin was refused, by the first refusal that applies, and counted; or memory was refused, and it is held.
pub record Refuses (d : DomainView) (ring : BeginRing) (d' : DomainView) (ring' : BeginRing) (given : BeginFault) : Type 0 where
  pub begin : Begin
  pub next : IsNext ring.held (received ring.consumer) (received ring'.consumer) begin
  pub domain : d' ≡ d
  pub accepted : ring'.accepted ≡ ring.accepted
  pub case : ((begin_fault d begin.what ≡ Some given) × (ring'.held ≡ None) × (ring'.refused ≡ ring.refused + 1))
      ⊎ ((begin_fault d begin.what ≡ None) × (given ≡ memory_fault begin.what) × (ring'.held ≡ Some begin) × (ring'.refused ≡ ring.refused))
