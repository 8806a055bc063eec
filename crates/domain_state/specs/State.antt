-- The state of a domain by itself.
use Rattle.std.specs.Prelude.{ℕ, ◌+◌, List, [], ◌∷◌, ◌++◌, map, filter, slice_set, slice_index_or, Option, Some, None}
use Rattle.fab_types.specs.declared.origin.Origin.{Origin}
use Rattle.fab_types.specs.declared.status.Status.{Status}
use Rattle.platform.specs.Share.{Share}
use Rattle.platform.specs.Owners.{is_own_function}
use Rattle.function.specs.Registers.{first_page}
use Rattle.host_memory.specs.Pages.{zeroed}
use Rattle.domain_state.specs.declared.counts.Counts.{Counts}
use Rattle.function.specs.declared.tags.OpenTag.{OpenTag}
use Rattle.domain_state.specs.Tags.{and_opened}
use Rattle.request_handling.specs.Emissions.{Emission}

-- a completion that was delivered
pub record Delivery : Type 0 where
  pub owner : Origin
  pub tag : ℕ
  pub status : Status
  pub bytes : List ℕ

-- Pages are pairs of a number or an ID and 4,096 bytes. The number of an emission is its place in flight,
-- which has None where the emission was consumed
pub record Alone : Type 0 where
  pub frames : List (ℕ × List ℕ)
  pub registers : List (ℕ × List ℕ)
  pub open_tags : List OpenTag
  pub deliveries : List Delivery
  pub counts : Counts
  pub flight : List (Option Emission)

-- a register page at the start for each function of the domain
abbrev pub first_registers : Share → List (ℕ × List ℕ)
first_registers share = map (λ line. (line.id, first_page line.id)) (filter (λ line. is_own_function share line.id) share.functions)

-- where a domain starts from
abbrev pub start_state : Share → Alone
start_state share = record {
  frames = zeroed share.frames;
  registers = first_registers share;
  open_tags = [];
  deliveries = [];
  counts = record { begins = 0; blocked = 0; unexpected = 0 };
  flight = [];
}

-- what is in flight under a number
abbrev pub item_at : List (Option Emission) → ℕ → Option Emission
item_at flight n = slice_index_or flight n None

-- the state with these register pages
abbrev pub with_registers : Alone → List (ℕ × List ℕ) → Alone
with_registers s registers = record { frames = s.frames; registers = registers; open_tags = s.open_tags; deliveries = s.deliveries; counts = s.counts; flight = s.flight }

-- the state when the number has left flight
abbrev pub without : Alone → ℕ → Alone
without s n = record { frames = s.frames; registers = s.registers; open_tags = s.open_tags; deliveries = s.deliveries; counts = s.counts; flight = slice_set s.flight n None }

-- the state with an emission in flight under the next number
abbrev pub with_emission : Alone → Emission → Alone
with_emission s e = record { frames = s.frames; registers = s.registers; open_tags = s.open_tags; deliveries = s.deliveries; counts = s.counts; flight = s.flight ++ Some e ∷ [] }

-- one begin more, which opens this Tag, if any
abbrev pub begun : Alone → Option OpenTag → Alone
begun s opened = record {
  frames = s.frames;
  registers = s.registers;
  open_tags = and_opened s.open_tags opened;
  deliveries = s.deliveries;
  counts = record { begins = s.counts.begins + 1; blocked = s.counts.blocked; unexpected = s.counts.unexpected };
  flight = s.flight;
}

-- what an entry makes of a state, and the packet that it emits, if any
pub record Change : Type 0 where
  pub state : Alone
  pub emission : Option Emission

abbrev pub emits : Alone → Emission → Change
emits s e = record { state = with_emission s e; emission = Some e }

abbrev pub emits_nothing : Alone → Change
emits_nothing s = record { state = s; emission = None }
