-- What is done about a packet that ends, by what its taker decided (PCIe 4.0, 2.3).
use Rattle.std.specs.Prelude.{◌≡◌, Bool, true, false, not, ℕ, ◌≤◌, List, Option, Some, None, option_map}
use Rattle.function.specs.Accesses.{IsAccess}
use Rattle.host_memory.specs.Pages.{page_of}
use Rattle.platform.specs.Share.{Share}
use Rattle.tlp_view.specs.Bytes.{packet_of}
use Rattle.tlp_view.specs.Kinds.{is_fetch_add}
use Rattle.tlp_view.specs.Malformed.{malformed}
use Rattle.tlp_view.specs.Packet.{Packet, dw_count}
use Rattle.tlp_view.specs.Runs.{is_write}
use Rattle.tlp_view.specs.declared.kind.Kind.TheVariants.{MRd}
use Rattle.request_handling.specs.declared.disposition.Disposition.{Disposition}
use Rattle.request_handling.specs.declared.disposition.Disposition.TheVariants.{Discarded, RefusedByPort, RefusedByHost, RefusedByFunction, Blocked, BlockedAndRefused, Stored, Shown, Added, Forwarded, Accessed}
use Rattle.request_handling.specs.declared.handling.Effect.{Effect}
use Rattle.request_handling.specs.declared.handling.Effect.TheVariants.{Leave, Block, Store, Add, Access}
use Rattle.request_handling.specs.declared.handling.Handling.{Handling}
use Rattle.request_handling.specs.Answers.{forwarded, function_answer, function_read, function_refusal, host_data, host_operand, host_refusal, port_answer, shown, stored_part}
use Rattle.request_handling.specs.Emissions.{Emission}

-- a function without a register page answers nothing
abbrev pub access_answer : Share → ℕ → Packet → Option (List ℕ) → Option Emission
access_answer share function t None = None
access_answer share function t (Some page) = function_answer share function page t

-- what it does with the state
abbrev pub effect_of : Disposition → Effect
effect_of Discarded = Leave
effect_of (RefusedByPort port function status) = Leave
effect_of RefusedByHost = Leave
effect_of (RefusedByFunction function) = Leave
effect_of Blocked = Block
effect_of BlockedAndRefused = Block
effect_of (Stored k first) = Store k first
effect_of (Shown k) = Leave
effect_of (Added k first) = Add k first
effect_of (Forwarded function bar) = Leave
effect_of (Accessed function) = Access function

-- may something answer the packet? A write of a register page isn't answered
abbrev pub may_answer : Packet → Disposition → Bool
may_answer t Discarded = false
may_answer t (RefusedByPort port function status) = true
may_answer t RefusedByHost = true
may_answer t (RefusedByFunction function) = true
may_answer t Blocked = false
may_answer t BlockedAndRefused = true
may_answer t (Stored k first) = false
may_answer t (Shown k) = true
may_answer t (Added k first) = true
may_answer t (Forwarded function bar) = true
may_answer t (Accessed function) = not (is_write t.kind)

-- what answers the packet
abbrev pub reply_of : Share → List (ℕ × List ℕ) → List (ℕ × List ℕ) → Packet → Disposition → Option Emission
reply_of share frames registers t Discarded = None
reply_of share frames registers t (RefusedByPort port function status) = Some (port_answer port function status t)
reply_of share frames registers t RefusedByHost = Some (host_refusal share t)
reply_of share frames registers t (RefusedByFunction function) = Some (function_refusal share function t)
reply_of share frames registers t Blocked = None
reply_of share frames registers t BlockedAndRefused = Some (host_refusal share t)
reply_of share frames registers t (Stored k first) = None
reply_of share frames registers t (Shown k) = Some (host_data share t (shown frames k t))
reply_of share frames registers t (Added k first) = Some (host_operand share t (shown frames k t))
reply_of share frames registers t (Forwarded function bar) = Some (forwarded function bar t)
reply_of share frames registers t (Accessed function) = access_answer share function t (page_of registers function)

-- ---- the answers whose data stand in memory or in a register page

-- a function without a register page has none
abbrev pub page_read : Share → ℕ → Packet → Option (List ℕ) → Option Emission
page_read share function t None = None
page_read share function t (Some page) = function_read share function page t

-- what answers a read so, of a packet that may be answered
abbrev pub data_reply_of : Share → List (ℕ × List ℕ) → List (ℕ × List ℕ) → Packet → Disposition → Option Emission
data_reply_of share frames registers t Discarded = None
data_reply_of share frames registers t (RefusedByPort port function status) = None
data_reply_of share frames registers t RefusedByHost = None
data_reply_of share frames registers t (RefusedByFunction function) = None
data_reply_of share frames registers t Blocked = None
data_reply_of share frames registers t BlockedAndRefused = None
data_reply_of share frames registers t (Stored k first) = None
data_reply_of share frames registers t (Shown k) = option_map (host_data share t) (stored_part frames k t)
data_reply_of share frames registers t (Added k first) = None
data_reply_of share frames registers t (Forwarded function bar) = None
data_reply_of share frames registers t (Accessed function) = page_read share function t (page_of registers function)

abbrev pub handling : Share → List (ℕ × List ℕ) → List (ℕ × List ℕ) → Packet → Disposition → Handling
handling share frames registers t d = record { effect = effect_of d; reply = reply_of share frames registers t d }

-- the packet is of the kind that is served so
abbrev pub IsServed : Packet → Disposition → Type 0
IsServed t Discarded = Unit {0}
IsServed t (RefusedByPort port function status) = Unit {0}
IsServed t RefusedByHost = Unit {0}
IsServed t (RefusedByFunction function) = Unit {0}
IsServed t Blocked = Unit {0}
IsServed t BlockedAndRefused = Unit {0}
IsServed t (Stored k first) = Unit {0}
IsServed t (Shown k) = (t.kind ≡ MRd) × (dw_count t.length ≤ 64)
IsServed t (Added k first) = is_fetch_add t.kind ≡ true
IsServed t (Forwarded function bar) = IsAccess t
IsServed t (Accessed function) = IsAccess t

-- The bytes are a packet that may be answered so. Bytes that are none are discarded
abbrev pub Suits : List ℕ → Disposition → Type 0
Suits bytes Discarded = Unit {0}
Suits bytes (RefusedByPort port function status) = malformed bytes ≡ None
Suits bytes RefusedByHost = malformed bytes ≡ None
Suits bytes (RefusedByFunction function) = malformed bytes ≡ None
Suits bytes Blocked = Unit {0}
Suits bytes BlockedAndRefused = malformed bytes ≡ None
Suits bytes (Stored k first) = Unit {0}
Suits bytes (Shown k) = (malformed bytes ≡ None) × ((packet_of bytes).kind ≡ MRd) × (dw_count (packet_of bytes).length ≤ 64)
Suits bytes (Added k first) = (malformed bytes ≡ None) × (is_fetch_add (packet_of bytes).kind ≡ true)
Suits bytes (Forwarded function bar) = (malformed bytes ≡ None) × IsAccess (packet_of bytes)
Suits bytes (Accessed function) = (malformed bytes ≡ None) × IsAccess (packet_of bytes)
