-- The seven causes by which bytes are no packet, each with its condition by itself (PCIe 4.0, 2.2.1 to 2.2.9; their
-- numbers are this project's own).
use Rattle.std.specs.Prelude.{◌≡◌, ℕ, ◌<◌, ◌/◌, ◌%◌, ◌^◌, Bool, true, false, ◌&&◌, nat_lt, List, slice_index, Option, Some, None, is_none}
use Rattle.fab_types.specs.declared.faults.malformed.Malformed.{Malformed}
use Rattle.fab_types.specs.declared.faults.malformed.Malformed.TheVariants as malformed
use Rattle.fab_types.specs.Faults.{malformed_number}
use Rattle.tlp_view.specs.declared.kind.Kind.{Kind}
use Rattle.tlp_view.specs.Bytes.{fmt_at, type_at, has_4dw_header_at, length_at, address_at}
use Rattle.tlp_view.specs.Kinds.{kind_at, has_address, is_memory}
use Rattle.tlp_view.specs.Malformed.{crosses, has_bad_enables, has_bad_field, has_bad_size, is_short}
use Rattle.tlp_view.specs.Packet.{dw_count}

abbrev pub kind_of : List ℕ → Option Kind
kind_of bytes = kind_at (fmt_at bytes) (type_at bytes)

-- what is asked of bytes of a known kind
abbrev pub if_known : Option Kind → (Kind → Bool) → Bool
if_known None asked = false
if_known (Some kind) asked = asked kind

-- a memory request whose enables break the rules
abbrev pub breaks_enables : List ℕ → Kind → Bool
breaks_enables bytes kind =
    is_memory kind && has_bad_enables (dw_count (length_at bytes)) (address_at bytes) (slice_index bytes 7 % 16) (slice_index bytes 7 / 16)

-- a memory request that doesn't stay within 4,096 bytes
abbrev pub breaks_page : List ℕ → Kind → Bool
breaks_page bytes kind = is_memory kind && crosses (dw_count (length_at bytes)) (address_at bytes)

-- an address below 4 GB in a header of four DW
abbrev pub breaks_form : List ℕ → Kind → Bool
breaks_form bytes kind = has_address kind && has_4dw_header_at bytes && nat_lt (address_at bytes) (2 ^ 32)

-- does the cause apply to the bytes, whatever other causes do?
abbrev pub applies : Malformed → List ℕ → Bool
applies malformed.Short bytes = is_short bytes
applies malformed.Kind bytes = is_none (kind_of bytes)
applies malformed.Size bytes = if_known (kind_of bytes) (λ kind. has_bad_size kind bytes)
applies malformed.Enables bytes = if_known (kind_of bytes) (breaks_enables bytes)
applies malformed.Crosses bytes = if_known (kind_of bytes) (breaks_page bytes)
applies malformed.HighForm bytes = if_known (kind_of bytes) (breaks_form bytes)
applies malformed.Field bytes = if_known (kind_of bytes) (λ kind. has_bad_field kind bytes)

-- it applies, and none with a lower number does
pub record IsLeastCause (bytes : List ℕ) (cause : Malformed) : Type 0 where
  pub here : applies cause bytes ≡ true
  pub earlier : (other : Malformed) → malformed_number other < malformed_number cause → applies other bytes ≡ false
