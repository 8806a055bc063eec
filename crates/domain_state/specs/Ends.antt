-- How a packet in flight ends: what that does with the domain's state, and what answers it.
use Rattle.std.specs.Prelude.{◌≡◌, ◌⊎◌, true, ℕ, ◌+◌, ◌≤◌, List, [], ◌∷◌, length, Option, Some, None}
use Rattle.fab_types.specs.declared.head.Parties.TheVariants.{Downward}
use Rattle.function.specs.Accesses.{IsAccess, accessed}
use Rattle.host_memory.specs.Additions.{added, is_operand}
use Rattle.host_memory.specs.Pages.{written}
use Rattle.tlp_view.specs.Bytes.{packet_of}
use Rattle.tlp_view.specs.Malformed.{malformed}
use Rattle.tlp_view.specs.Packet.{Packet}
use Rattle.tlp_view.specs.Runs.{runs}
use Rattle.request_handling.specs.declared.handling.Effect.{Effect}
use Rattle.request_handling.specs.declared.handling.Effect.TheVariants.{Leave, Block, Store, Add, Access}
use Rattle.request_handling.specs.declared.handling.Handling.{Handling}
use Rattle.domain_state.specs.RegisterPages.{changed}
use Rattle.request_handling.specs.Emissions.{Emission}
use Rattle.domain_state.specs.State.{Alone, Change, without, with_emission, with_registers}

-- one more request without a mapping
abbrev pub blocked : Alone → Alone
blocked s = record {
  frames = s.frames;
  registers = s.registers;
  open_tags = s.open_tags;
  deliveries = s.deliveries;
  flight = s.flight;
  counts = record { begins = s.counts.begins; blocked = s.counts.blocked + 1; unexpected = s.counts.unexpected };
}

-- pages after runs of bytes were written to one of them, each at its offset from a first byte
abbrev pub stored : List (ℕ × List ℕ) → ℕ → ℕ → List (ℕ × List ℕ) → List (ℕ × List ℕ)
stored pages k first [] = pages
stored pages k first (run ∷ runs) = stored (written pages k (first + run.0) run.1) k first runs

-- a write to a frame
abbrev pub with_stored : Alone → ℕ → ℕ → List (ℕ × List ℕ) → Alone
with_stored s k first runs = record {
  frames = stored s.frames k first runs;
  registers = s.registers;
  open_tags = s.open_tags;
  deliveries = s.deliveries;
  counts = s.counts;
  flight = s.flight;
}

-- an addition to a frame
abbrev pub with_added : Alone → ℕ → ℕ → List ℕ → Alone
with_added s k first operand = record {
  frames = added s.frames k first operand;
  registers = s.registers;
  open_tags = s.open_tags;
  deliveries = s.deliveries;
  counts = s.counts;
  flight = s.flight;
}

-- a request to a function's register page; a read leaves the page as it is
abbrev pub with_access : Alone → ℕ → Packet → Alone
with_access s function t = with_registers s (changed s.registers function (λ page. accessed page t))

-- what an end does with the state, bytes being those of the packet that ends
abbrev pub done : Alone → List ℕ → Effect → Alone
done s bytes Leave = s
done s bytes Block = blocked s
done s bytes (Store k first) = with_stored s k first (runs (packet_of bytes))
done s bytes (Add k first) = with_added s k first (packet_of bytes).payload
done s bytes (Access function) = with_access s function (packet_of bytes)

-- a reply goes into flight under the next number
abbrev pub replied : Alone → Option Emission → Alone
replied s None = s
replied s (Some e) = with_emission s e

-- the effect is done, and the reply goes into flight
abbrev pub does : Alone → List ℕ → Handling → Change
does s bytes handling = record { state = replied (done s bytes handling.effect) handling.reply; emission = handling.reply }

-- the same of a packet that leaves flight
abbrev pub conclude : Alone → ℕ → List ℕ → Handling → Change
conclude s n bytes handling = does (without s n) bytes handling

-- the bytes are a packet with an operand that lies within a page
abbrev pub IsAddition : List ℕ → ℕ → Type 0
IsAddition bytes first = (malformed bytes ≡ None) × (is_operand (length (packet_of bytes).payload) ≡ true) × (first + length (packet_of bytes).payload ≤ 4096)

-- what is written or added to a frame lies within it, and what accesses a page is a request to its function, or any for one
abbrev pub EffectFits : Emission → Effect → Type 0
EffectFits e Leave = Unit {0}
EffectFits e Block = Unit {0}
EffectFits e (Store k first) = (malformed e.bytes ≡ None) × (first + length (packet_of e.bytes).payload ≤ 4096)
EffectFits e (Add k first) = IsAddition e.bytes first
EffectFits e (Access function) = (e.parties ≡ Downward function) ⊎ ((malformed e.bytes ≡ None) × IsAccess (packet_of e.bytes))

-- the same of bytes that aren't in flight here: what accesses a page is a request for one
abbrev pub BytesFit : List ℕ → Effect → Type 0
BytesFit bytes Leave = Unit {0}
BytesFit bytes Block = Unit {0}
BytesFit bytes (Store k first) = (malformed bytes ≡ None) × (first + length (packet_of bytes).payload ≤ 4096)
BytesFit bytes (Add k first) = IsAddition bytes first
BytesFit bytes (Access function) = (malformed bytes ≡ None) × IsAccess (packet_of bytes)
