-- Completions that answer a request (PCIe 4.0, 2.2.9 and 2.3.1).
use Rattle.std.specs.Prelude.{ℕ, ◌+◌, ◌-◌, ◌*◌, ◌/◌, ◌%◌, ◌^◌, ◌<◌, ◌==◌, false, List, [], ◌++◌, length, Option, Some, None, if◌then◌else◌}
use Rattle.std.specs.List.{refill}
use Rattle.fab_types.specs.declared.head.AddressType.TheVariants.{Untranslated}
use Rattle.fab_types.specs.declared.status.Status.{Status}
use Rattle.fab_types.specs.declared.status.Status.TheVariants.{SC}
use Rattle.tlp_view.specs.declared.completion.CompletionHead.{CompletionHead}
use Rattle.tlp_view.specs.declared.enables.Enables.{Enables}
use Rattle.tlp_view.specs.declared.kind.Kind.TheVariants.{Cpl, CplD}
use Rattle.tlp_view.specs.Packet.{Packet, Body, Completion, dw_count, enables_in, address_in}
use Rattle.tlp_view.specs.Bytes.{is_set}
use Rattle.tlp_view.specs.Spelling.{header}

-- the place of the first enabled byte of a DW, 0 where none is
abbrev pub first_place : ℕ → ℕ
first_place field = if is_set field 0 then 0 else (if is_set field 1 then 1 else (if is_set field 2 then 2 else (if is_set field 3 then 3 else 0)))

-- how many bytes of a DW lie up to the last enabled one
abbrev pub last_end : ℕ → ℕ
last_end field = if is_set field 3 then 4 else (if is_set field 2 then 3 else (if is_set field 1 then 2 else (if is_set field 0 then 1 else 0)))

-- bytes from the first enabled one to the last; 1 for a read of no bytes
abbrev pub byte_count : Enables → ℕ → ℕ
byte_count enables count =
    if count == 1
    then (if enables.first == 0 then 1 else last_end enables.first - first_place enables.first)
    else 4 * (count - 1) + last_end enables.last - first_place enables.first

abbrev pub lower_address : Enables → ℕ → ℕ
lower_address enables address = address / 4 * 4 % 128 + first_place enables.first

-- a memory read has both enables and an address, and no completion with data is made for another request by these
abbrev pub data_body : ℕ → ℕ → Option Enables → Option ℕ → Body
data_body completer count (Some enables) (Some address) = Completion completer SC (byte_count enables count) (lower_address enables address)
data_body completer count None address = Completion completer SC 4 0
data_body completer count (Some enables) None = Completion completer SC 4 0

-- the successful completion of a read, with its data
abbrev pub read_completion : ℕ → Packet → List ℕ → Packet
read_completion completer t bytes = record {
  kind = CplD;
  has_4dw_header = false;
  attributes = t.attributes;
  address_type = Untranslated;
  length = length bytes / 4;
  requester = t.requester;
  tag = t.tag;
  body = data_body completer (dw_count t.length) (enables_in t.body) (address_in t.body);
  payload = bytes;
}

-- the successful completion of an AtomicOp, with what stood there; Byte Count is its size (2.2.9)
abbrev pub atomic_completion : ℕ → Packet → List ℕ → Packet
atomic_completion completer t bytes = record {
  kind = CplD;
  has_4dw_header = false;
  attributes = t.attributes;
  address_type = Untranslated;
  length = length bytes / 4;
  requester = t.requester;
  tag = t.tag;
  body = Completion completer SC (length bytes) 0;
  payload = bytes;
}

-- A completion with no data. It is a Cpl for a locked read (MRdLk) too, where the standard has CplLk (PCIe 4.0, 2.2.1);
-- that is this project's own choice
abbrev pub refusal : ℕ → Status → Packet → Packet
refusal completer status t = record {
  kind = Cpl;
  has_4dw_header = false;
  attributes = t.attributes;
  address_type = Untranslated;
  length = 0;
  requester = t.requester;
  tag = t.tag;
  body = Completion completer status 4 0;
  payload = [];
}

-- the completion with these header fields, in whose Length count stands
abbrev pub completion : CompletionHead → ℕ → List ℕ → Packet
completion head count payload = record {
  kind = if count == 0 then Cpl else CplD;
  has_4dw_header = false;
  attributes = head.attributes;
  address_type = Untranslated;
  length = count;
  requester = head.requester;
  tag = head.tag;
  body = Completion head.completer head.status head.byte_count head.lower_address;
  payload = payload;
}

abbrev pub completion_of : CompletionHead → List ℕ → Packet
completion_of head payload = completion head (length payload / 4) payload

-- each field has a value of its width
pub record HeadFits (head : CompletionHead) : Type 0 where
  pub byte_count : head.byte_count < 2 ^ 12
  pub lower_address : head.lower_address < 2 ^ 7

-- the bytes of a packet, with 0 in each bit that has no field
abbrev pub completion_bytes : Packet → List ℕ
completion_bytes t = header t [] ++ t.payload

-- t with other bytes as its payload, as many as it has
abbrev pub with_payload : Packet → List ℕ → Packet
with_payload t bytes = record t { payload = refill (length t.payload) t.payload bytes }
