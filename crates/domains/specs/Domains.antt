-- The domains of a fabric as one list: which of them a begin or a packet belongs to, and what one entry makes of
-- all of them.
use Rattle.std.specs.Prelude.{◌≡◌, ℕ, ◌==◌, List, [], ◌∷◌, ◌++◌, length, map, filter, slice_get, slice_set, Option, Some, None, IsSome, option_map}
use Rattle.std.specs.List.{position, range_with_len}
use Rattle.fab_types.specs.declared.faults.begin.SubmitFault.{SubmitFault}
use Rattle.fab_types.specs.declared.faults.begin.SubmitFault.TheVariants as submit
use Rattle.fab_types.specs.declared.faults.begin.TickFault.{TickFault}
use Rattle.fab_types.specs.declared.faults.begin.TickFault.TheVariants as tick
use Rattle.fab_types.specs.declared.faults.begin.MmioFault.{MmioFault}
use Rattle.fab_types.specs.declared.faults.begin.MmioFault.TheVariants as mmio
use Rattle.frame_log.specs.Descriptor.{Descriptor}
use Rattle.frame_log.specs.declared.fault.FrameFault.{FrameFault}
use Rattle.frame_log.specs.declared.fault.FrameFault.TheVariants.{Stray, NoMemory}
use Rattle.platform.specs.Owners.{is_own_function, owns_port}
use Rattle.platform.specs.Platform.{Platform}
use Rattle.platform.specs.Share.{Share}
use Rattle.layout.specs.Views.{share_of_domain}
use Rattle.fab_types.specs.declared.host_access.HostAccess.{HostAccess}
use Rattle.domain.specs.declared.entry.Entry.{Entry}
use Rattle.domain.specs.Domains.{DomainView}
use Rattle.request_handling.specs.Heads.{descriptor_of}
use Rattle.domain_state.specs.HostAccesses.{mmio_fault}
use Rattle.domain.specs.Machine.{change}
use Rattle.domain_state.specs.State.{Change, start_state}
use Rattle.domain.specs.Submits.{submit_fault}
use Rattle.domain.specs.Ticks.{tick_fault}

-- ---- which domain it is

-- the place of the domain with this number
unfoldable pub place_of : List DomainView → ℕ → Option ℕ
place_of domains number = position (λ d. d.share.domain == number) domains

-- the place of the domain that a function is of
unfoldable pub place_of_function : List DomainView → ℕ → Option ℕ
place_of_function domains function = position (λ d. is_own_function d.share function) domains

-- a domain that stands at this place has this number
abbrev pub IsHome : List DomainView → ℕ → ℕ → Type 0
IsHome domains place number = (d : DomainView) → slice_get domains place ≡ Some d → d.share.domain ≡ number

-- the domain at a place, if there is one
abbrev pub domain_at : List DomainView → Option ℕ → Option DomainView
domain_at domains None = None
domain_at domains (Some place) = slice_get domains place

-- ---- what an entry makes of all domains

-- all domains after an entry of one of them, and the packet that it emitted
pub record Made : Type 0 where
  pub domains : List DomainView
  pub sent : Option Descriptor

-- a domain after an entry that changed it so
abbrev pub after : DomainView → Entry → Change → DomainView
after d entry c = record { share = d.share; state = c.state; journal = d.journal ++ entry ∷ [] }

-- the packet of an entry that changed a domain so
abbrev pub sent_by : DomainView → Change → Option Descriptor
sent_by d c = option_map (descriptor_of d.share.domain (length d.state.flight)) c.emission

-- the domain at this place is changed so, and all others stay as they were
abbrev pub made_by : List DomainView → ℕ → Entry → DomainView → Change → Made
made_by domains place entry d c = record { domains = slice_set domains place (after d entry c); sent = sent_by d c }

abbrev pub made_of : List DomainView → ℕ → Entry → Option DomainView → Option Made
made_of domains place entry None = None
made_of domains place entry (Some d) = option_map (made_by domains place entry d) (change d.share d.state entry)

-- what an entry of the domain at this place makes; none where there is no such domain, or the entry is illegal
abbrev pub made_at : List DomainView → Entry → Option ℕ → Option Made
made_at domains entry None = None
made_at domains entry (Some place) = made_of domains place entry (slice_get domains place)

-- what an entry of the domain with this number makes
abbrev pub made : List DomainView → ℕ → Entry → Option Made
made domains number entry = made_at domains entry (place_of domains number)

-- it is legal, and emits a packet
abbrev pub Emits : Option Made → Type 0
Emits None = ⊥
Emits (Some m) = IsSome m.sent

-- why a frame was given back: what it asked for is illegal, or memory was refused to what emits
abbrev pub IsGivenBack : Option Made → Descriptor → FrameFault → Type 0
IsGivenBack all frame (Stray given) = (given ≡ frame) × (all ≡ None)
IsGivenBack all frame (NoMemory given) = (given ≡ frame) × Emits all

-- the same of a call that takes no memory
abbrev pub IsStray : Option Made → Descriptor → FrameFault → Type 0
IsStray all frame (Stray given) = (given ≡ frame) × (all ≡ None)
IsStray all frame (NoMemory given) = ⊥

-- ---- when a begin is refused, memory aside

abbrev pub submit_refusal_by : Option DomainView → ℕ → List ℕ → Option SubmitFault
submit_refusal_by None function bytes = Some submit.NoFunction
submit_refusal_by (Some d) function bytes = submit_fault d.share d.state function bytes

-- the first refusal that applies, if one does
abbrev pub submit_refusal : List DomainView → ℕ → List ℕ → Option SubmitFault
submit_refusal domains function bytes = submit_refusal_by (domain_at domains (place_of_function domains function)) function bytes

abbrev pub tick_refusal_by : Option DomainView → ℕ → Option TickFault
tick_refusal_by None function = Some tick.NoFunction
tick_refusal_by (Some d) function = tick_fault d.share d.state function

abbrev pub tick_refusal : List DomainView → ℕ → Option TickFault
tick_refusal domains function = tick_refusal_by (domain_at domains (place_of_function domains function)) function

abbrev pub mmio_refusal_by : Option DomainView → HostAccess → Option MmioFault
mmio_refusal_by None access = Some mmio.NotYours
mmio_refusal_by (Some d) access = mmio_fault d.share d.state access

abbrev pub mmio_refusal : List DomainView → ℕ → HostAccess → Option MmioFault
mmio_refusal domains number access = mmio_refusal_by (domain_at domains (place_of domains number)) access

-- ---- where they start

abbrev pub fresh : Share → DomainView
fresh share = record { share = share; state = start_state share; journal = [] }

-- of so many numbers from 1 on each domain that owns a port, at its start
unfoldable pub starting_domains_among : Platform → ℕ → List DomainView
starting_domains_among platform count = map (λ number. fresh (share_of_domain platform number)) (filter (owns_port platform.ports) (range_with_len 1 count))

-- each domain that owns a port, by rising number, at its start
abbrev pub starting_domains : Platform → List DomainView
starting_domains platform = starting_domains_among platform 31
