-- The machine of a domain by itself: what each entry of a journal does, and where it is illegal.
use Rattle.std.specs.Prelude.{ℕ, ◌+◌, List, [], ◌∷◌, Option, Some, None, option_map}
use Rattle.platform.specs.Share.{Share}
use Rattle.domain.specs.declared.entry.Entry.{Entry}
use Rattle.domain.specs.declared.entry.Entry.TheVariants.{Submit, Tick, Mmio, Refuse, Carry, Deliver, Alien}
use Rattle.request_handling.specs.declared.handling.Handling.{Handling}
use Rattle.request_handling.specs.Emissions.{Emission}
use Rattle.domain_state.specs.State.{Alone, Change, emits_nothing, item_at, start_state, without}
use Rattle.domain.specs.Submits.{submit}
use Rattle.domain.specs.Aliens.{alien}
use Rattle.request_handling.specs.Carries.{carriage_end, refusal_end}
use Rattle.domain.specs.Deliveries.{arrival, arrived}
use Rattle.domain_state.specs.Ends.{conclude}
use Rattle.domain_state.specs.HostAccesses.{mmio}
use Rattle.domain.specs.Ticks.{tick}

-- a packet in flight that ends so
abbrev pub ended : Alone → ℕ → Option Emission → Option Handling → Option Change
ended s n None handling = None
ended s n (Some e) handling = option_map (conclude s n e.bytes) handling

-- its sender's first port stops it
abbrev pub refuse : Share → Alone → ℕ → Option Emission → Option Change
refuse share s n item = ended s n item (refusal_end share item)

-- it reaches its completer
abbrev pub carry : Share → Alone → ℕ → Option Emission → Option Change
carry share s n item = ended s n item (carriage_end share s.frames s.registers item)

-- a completion reaches whom it answers
abbrev pub deliver : Alone → ℕ → Option Emission → Option Change
deliver s n item = option_map (λ a. emits_nothing (arrived (without s n) a)) (arrival s.open_tags item)

-- what an entry does, or None where it is illegal
abbrev pub change : Share → Alone → Entry → Option Change
change share s (Submit function bytes) = submit share s function bytes
change share s (Tick function) = tick share s function
change share s (Mmio access) = mmio share s access
change share s (Refuse n) = refuse share s n (item_at s.flight n)
change share s (Carry n) = carry share s n (item_at s.flight n)
change share s (Deliver n) = deliver s n (item_at s.flight n)
change share s (Alien place sender bytes) = alien share s place sender bytes

-- how many entries are of alien packets, one more if this is one
abbrev pub with_alien : Entry → ℕ → ℕ
with_alien (Submit function bytes) n = n
with_alien (Tick function) n = n
with_alien (Mmio access) n = n
with_alien (Refuse number) n = n
with_alien (Carry number) n = n
with_alien (Deliver number) n = n
with_alien (Alien place sender bytes) n = n + 1

abbrev pub aliens_from : ℕ → List Entry → ℕ
aliens_from n [] = n
aliens_from n (entry ∷ journal) = aliens_from (with_alien entry n) journal

-- how many entries of a journal are of alien packets
abbrev pub aliens_in : List Entry → ℕ
aliens_in journal = aliens_from 0 journal

abbrev pub step : Share → Alone → Entry → Option Alone
step share s entry = option_map (λ c. c.state) (change share s entry)

abbrev pub step_from : Share → Option Alone → Entry → Option Alone
step_from share None entry = None
step_from share (Some s) entry = step share s entry

abbrev pub replay_from : Share → Option Alone → List Entry → Option Alone
replay_from share s [] = s
replay_from share s (entry ∷ entries) = replay_from share (step_from share s entry) entries

-- the state that a journal leaves, or None where an entry is illegal
abbrev pub replay : Share → List Entry → Option Alone
replay share journal = replay_from share (Some (start_state share)) journal
