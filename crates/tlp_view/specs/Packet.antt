-- What a packet says (PCIe 4.0, 2.2).
use Rattle.std.specs.Prelude.{ℕ, Bool, List, Option, Some, None, ◌==◌, if◌then◌else◌}
use Rattle.fab_types.specs.declared.head.AddressType.{AddressType}
use Rattle.fab_types.specs.declared.status.Status.{Status}
use Rattle.tlp_view.specs.declared.attributes.Attributes.{Attributes}
use Rattle.tlp_view.specs.declared.enables.Enables.{Enables}
use Rattle.tlp_view.specs.declared.kind.Kind.{Kind}

-- the header fields that not every kind has
pub data Body : Type 0 where
  -- of a memory read or write: its byte enables, and its address in bytes
  Memory : Enables → ℕ → Body
  -- of a FetchAdd: its address in bytes
  Atomic : ℕ → Body
  -- of a message: the low three bits of Type, how it is routed
  Message : ℕ → Body
  -- of any other request: none that is read here
  Request : Body
  -- of a completion: Completer ID, status, Byte Count, Lower Address
  Completion : ℕ → Status → ℕ → ℕ → Body

-- a well-formed packet
pub record Packet : Type 0 where
  pub kind : Kind
  pub has_4dw_header : Bool  -- a header of 4 DW
  pub attributes : Attributes
  pub address_type : AddressType
  pub length : ℕ  -- the Length field, in which 0 stands for 1,024 DW
  pub requester : ℕ  -- Requester ID
  pub tag : ℕ
  pub body : Body
  pub payload : List ℕ

-- a Length in DW
abbrev pub dw_count : ℕ → ℕ
dw_count length = if length == 0 then 1024 else length

-- the address of the first byte asked for, carried or added to, the enables and so on, where the kind has them
abbrev pub address_in : Body → Option ℕ
address_in (Memory enables address) = Some address
address_in (Atomic address) = Some address
address_in (Message routing) = None
address_in Request = None
address_in (Completion completer status count lower) = None

abbrev pub enables_in : Body → Option Enables
enables_in (Memory enables address) = Some enables
enables_in (Atomic address) = None
enables_in (Message routing) = None
enables_in Request = None
enables_in (Completion completer status count lower) = None

abbrev pub status_in : Body → Option Status
status_in (Memory enables address) = None
status_in (Atomic address) = None
status_in (Message routing) = None
status_in Request = None
status_in (Completion completer status count lower) = Some status

abbrev pub byte_count_in : Body → Option ℕ
byte_count_in (Memory enables address) = None
byte_count_in (Atomic address) = None
byte_count_in (Message routing) = None
byte_count_in Request = None
byte_count_in (Completion completer status count lower) = Some count

abbrev pub lower_address_in : Body → Option ℕ
lower_address_in (Memory enables address) = None
lower_address_in (Atomic address) = None
lower_address_in (Message routing) = None
lower_address_in Request = None
lower_address_in (Completion completer status count lower) = Some lower
