-- The packets that a domain made, in the order of their numbers, and in whose outbox each was put.
use Rattle.std.specs.Prelude.{◌≡◌, ℕ, List, [], ◌∷◌, ◌++◌, length, slice_get, Option, Some, None, option_map, All}
use Rattle.fab_types.specs.declared.head.Parties.{Parties}
use Rattle.fab_types.specs.declared.head.Parties.TheVariants.{Upward, Downward, Answer}
use Rattle.fab_types.specs.declared.origin.Origin.{Origin}
use Rattle.fab_types.specs.declared.origin.Origin.TheVariants.{Function, Host}
use Rattle.platform.specs.Share.{Share}
use Rattle.domain.specs.declared.entry.Entry.{Entry}
use Rattle.domain.specs.declared.entry.Entry.TheVariants.{Submit, Tick, Mmio, Refuse, Carry, Deliver, Alien}
use Rattle.domain.specs.Machine.{change, step_from}
use Rattle.request_handling.specs.Emissions.{Emission}
use Rattle.request_handling.specs.Fates.{direct_in, fate}
use Rattle.domain_state.specs.State.{Alone, Change, item_at, start_state}

-- A port's answer is put in no outbox. In which an alien packet's is put depends on who took that, and isn't said here
pub record Sent : Type 0 where
  pub source : Option Origin  -- the function or host in whose outbox it was put
  pub emission : Emission

-- ---- in whose outbox

-- who carries what a function sent: the host, or the function to which it goes directly
abbrev pub carrier_by : Share → Option ℕ → Option Origin
carrier_by share None = Some (Host share.domain)
carrier_by share (Some peer) = Some (Function peer)

-- who answers a packet that is carried, or sends it on: such a one what a function sent, a function what was sent to it
abbrev pub carrier : Share → List ℕ → Parties → Option Origin
carrier share bytes (Upward function) = carrier_by share (direct_in (fate share.ports function bytes))
carrier share bytes (Downward function) = Some (Function function)
carrier share bytes (Answer answerer addressee) = None

abbrev pub source_of_carried : Share → Option Emission → Option Origin
source_of_carried share None = None
source_of_carried share (Some e) = carrier share e.bytes e.parties

-- in whose outbox an entry puts what it emits
abbrev pub source : Share → Alone → Entry → Option Origin
source share s (Submit function bytes) = Some (Function function)
source share s (Tick function) = Some (Function function)
source share s (Mmio access) = Some (Host share.domain)
source share s (Refuse n) = None
source share s (Carry n) = source_of_carried share (item_at s.flight n)
source share s (Deliver n) = None
source share s (Alien place sender bytes) = None

-- ---- what entries send

abbrev pub sent_of : Option Origin → Option Emission → List Sent
sent_of origin None = []
sent_of origin (Some e) = record { source = origin; emission = e } ∷ []

-- what an entry sends, if anything, where this is what it makes of the state
abbrev pub sent_by_entry : Share → Alone → Entry → Option Change → List Sent
sent_by_entry share s entry None = []
sent_by_entry share s entry (Some c) = sent_of (source share s entry) c.emission

abbrev pub sent_at : Share → Option Alone → Entry → List Sent
sent_at share None entry = []
sent_at share (Some s) entry = sent_by_entry share s entry (change share s entry)

-- what entries send from a state on; nothing from the first illegal one on
abbrev pub sent_from : Share → Option Alone → List Entry → List Sent
sent_from share s [] = []
sent_from share s (entry ∷ entries) = sent_at share s entry ++ sent_from share (step_from share s entry) entries

-- what a journal led to: the packet with number n stands at place n
abbrev pub sent : Share → List Entry → List Sent
sent share journal = sent_from share (Some (start_state share)) journal

-- what a function put in its outbox and sent as its own is its own
abbrev pub IsBySource : Sent → Type 0
IsBySource x = (function sender : ℕ) → x.source ≡ Some (Function function) → x.emission.parties ≡ Upward sender → sender ≡ function

-- they are as many as the domain made, and what is in flight stands at the place of its number
pub record AreSent (share : Share) (journal : List Entry) (s : Alone) : Type 0 where
  pub many : length (sent share journal) ≡ length s.flight
  pub each : (n : ℕ) (e : Emission) → item_at s.flight n ≡ Some e → option_map (λ x. x.emission) (slice_get (sent share journal) n) ≡ Some e
  pub sender : All IsBySource (sent share journal)
