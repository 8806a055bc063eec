-- Memory requests that are made (PCIe 4.0, 2.2.5 and 2.2.7).
use Rattle.std.specs.Prelude.{◌≡◌, ℕ, ◌+◌, ◌*◌, ◌/◌, ◌%◌, ◌^◌, ◌<◌, ◌≤◌, ◌==◌, nat_lt, Bool, true, false, List, [], ◌++◌, length, unwrap_or, if◌then◌else◌}
use Rattle.tlp_view.specs.declared.enables.Enables.{Enables}
use Rattle.tlp_view.specs.declared.kind.Kind.{Kind}
use Rattle.tlp_view.specs.declared.kind.Kind.TheVariants.{MRd, MWr}
use Rattle.tlp_view.specs.declared.request.RequestHead.{RequestHead}
use Rattle.tlp_view.specs.Packet.{Packet, Body, Memory, Atomic, Message, Request, Completion, address_in}
use Rattle.tlp_view.specs.Malformed.{has_bad_enables}
use Rattle.tlp_view.specs.Spelling.{header}

-- only an address of 4 GB or more has a header of 4 DW
abbrev pub is_high : ℕ → Bool
is_high address = if nat_lt address (2 ^ 32) then false else true

-- the memory request with these header fields and a count of DW
abbrev pub request : Kind → RequestHead → ℕ → List ℕ → Packet
request kind head count payload = record {
  kind = kind;
  has_4dw_header = is_high head.address;
  attributes = head.attributes;
  address_type = head.address_type;
  length = count % 1024;
  requester = head.requester;
  tag = head.tag;
  body = Memory head.enables head.address;
  payload = payload;
}

-- a read of so many DW
abbrev pub read_request : RequestHead → ℕ → Packet
read_request head count = request MRd head count []

-- a write of these bytes
abbrev pub write_request : RequestHead → List ℕ → Packet
write_request head payload = request MWr head (length payload / 4) payload

-- the same at another address: all else of a memory request is kept
abbrev pub moved_body : Body → ℕ → Body
moved_body (Memory enables old) address = Memory enables address
moved_body (Atomic old) address = Atomic address
moved_body (Message routing) address = Message routing
moved_body Request address = Request
moved_body (Completion completer status count lower) address = Completion completer status count lower

abbrev pub moved : Packet → ℕ → Packet
moved t address = record t { has_4dw_header = is_high address; body = moved_body t.body address }

-- two addresses have one place in 4,096 bytes
abbrev pub IsSamePlace : Packet → ℕ → Type 0
IsSamePlace t address = address % 4096 ≡ unwrap_or (address_in t.body) 0 % 4096

-- with these fields a request of so many DW is well formed
pub record RequestFits (head : RequestHead) (count : ℕ) : Type 0 where
  pub some : 1 ≤ count
  pub most : count ≤ 1024
  pub first : head.enables.first < 16
  pub last : head.enables.last < 16
  pub enables : has_bad_enables count head.address head.enables.first head.enables.last ≡ false
  pub aligned : head.address % 4 ≡ 0
  pub within : head.address % 4096 + 4 * count ≤ 4096

-- the enables of a request for all bytes of so many DW
abbrev pub all_enabled : ℕ → Enables
all_enabled count = record { first = 15; last = if count == 1 then 0 else 15 }

-- the bytes of a packet, with 0 in each bit that has no field
abbrev pub packet_bytes : Packet → List ℕ
packet_bytes t = header t [] ++ t.payload
