-- What a reader of packets keeps of the bytes that it lends.
use Rattle.std.specs.Prelude.{◌≡◌, false, ◌+◌, ◌*◌, ◌%◌, ◌≤◌, ℕ, List, length, Option, Some, None, IfSome, IsSome, MatchOption, if◌then◌else◌}
use Rattle.fab_types.specs.declared.head.AddressType.{AddressType}
use Rattle.tlp_view.specs.declared.kind.Kind.{Kind}
use Rattle.tlp_view.specs.Packet.{Packet, dw_count, address_in}
use Rattle.tlp_view.specs.Kinds.{kind_at, has_data, has_address, has_length}
use Rattle.tlp_view.specs.Bytes.{fmt_at, type_at, header_len, packet_of, HasHeader}
use Rattle.tlp_view.specs.Malformed.{data_len, has_bad_length, malformed}

-- the bytes are a well-formed packet of this kind
pub record IsView (kind : Kind) (bytes : List ℕ) : Type 0 where
  pub well_formed : malformed bytes ≡ None
  pub kind_is : kind_at (fmt_at bytes) (type_at bytes) ≡ Some kind
  pub whole : HasHeader bytes
  pub size : length bytes ≡ header_len bytes + data_len kind bytes
  pub small : data_len kind bytes ≤ 256

-- the bytes are this packet, or they are none
abbrev pub IsWhatIsRead : List ℕ → Option Packet → Type 0
IsWhatIsRead bytes found = MatchOption found (IsSome (malformed bytes)) (λ t. (malformed bytes ≡ None) × (t ≡ packet_of bytes))

-- Length in DW, where the kind has it
abbrev pub length_of : Packet → Option ℕ
length_of t = if has_length t.kind then Some (dw_count t.length) else None

-- only the requests that are translated have an address type
abbrev pub address_type_in : Packet → Option AddressType
address_type_in t = if has_address t.kind then Some t.address_type else None

-- what each well-formed packet keeps to: its payload is as long as Length says, which its kind allows, and a request for
-- memory is of whole DWs and stays within 4,096 bytes
pub record IsSound (t : Packet) : Type 0 where
  pub sized : length t.payload ≡ (if has_data t.kind then 4 * dw_count t.length else 0)
  pub small : length t.payload ≤ 256
  pub counted : has_bad_length t.kind t.length ≡ false
  pub aligned : IfSome (address_in t.body) (λ a. a % 4 ≡ 0)
  pub within : IfSome (address_in t.body) (λ a. a % 4096 + 4 * dw_count t.length ≤ 4096)
