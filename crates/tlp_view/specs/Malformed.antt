-- When bytes are no well-formed packet: the conditions and their order are this project's own, after
-- PCIe 4.0, 2.2.1 to 2.2.9.
use Rattle.std.specs.Prelude.{ℕ, ◌+◌, ◌*◌, ◌/◌, ◌%◌, ◌^◌, ◌==◌, Bool, ◌||◌, ◌&&◌, not, nat_lt, List, length, slice_index, is_none, Option, Some, None, if◌then◌else◌}
use Rattle.fab_types.specs.declared.faults.malformed.Malformed.{Malformed}
use Rattle.fab_types.specs.declared.faults.malformed.Malformed.TheVariants.{Short, Kind as NoKind, Size, Enables as BadEnables, Crosses, HighForm, Field}
use Rattle.tlp_view.specs.declared.kind.Kind.{Kind}
use Rattle.tlp_view.specs.Packet.{dw_count}
use Rattle.tlp_view.specs.Kinds.{kind_at, has_data, has_address, is_memory, is_fetch_add, is_completion, is_one_dw}
use Rattle.tlp_view.specs.Bytes.{bits, is_set, fmt_at, type_at, has_4dw_header_at, header_len, length_at, address_at, status_at}

abbrev pub is_short : List ℕ → Bool
is_short bytes = nat_lt (length bytes) 12 || (nat_lt (length bytes) 16 && has_4dw_header_at bytes)

-- bytes of payload that Length calls for
abbrev pub data_len : Kind → List ℕ → ℕ
data_len kind bytes = if has_data kind then 4 * dw_count (length_at bytes) else 0

-- I/O and configuration requests are of one DW, and the operand of a FetchAdd is of one or two (PCIe 4.0, 2.2.7)
abbrev pub has_bad_length : Kind → ℕ → Bool
has_bad_length kind length = (is_one_dw kind && not (length == 1)) || (is_fetch_add kind && not (length == 1) && not (length == 2))

-- 256 bytes of payload at most
unfoldable pub has_bad_size : Kind → List ℕ → Bool
has_bad_size kind bytes =
    not (length bytes == header_len bytes + data_len kind bytes)
    || nat_lt 256 (data_len kind bytes)
    || has_bad_length kind (length_at bytes)

-- enables that begin somewhere in a DW and go on to its end
abbrev pub reaches_end : ℕ → Bool
reaches_end field = (field == 15) || (field == 14) || (field == 12) || (field == 8)

-- enables that begin with a DW
abbrev pub begins_at_start : ℕ → Bool
begins_at_start field = (field == 15) || (field == 7) || (field == 3) || (field == 1)

-- of a count of DW at an address, with these fields (PCIe 4.0, 2.2.5)
unfoldable pub has_bad_enables : ℕ → ℕ → ℕ → ℕ → Bool
has_bad_enables count address first last =
    ((count == 1) && not (last == 0))
    || (nat_lt 1 count && ((first == 0) || (last == 0)))
    || ((nat_lt 2 count || ((count == 2) && not (address % 8 == 0))) && not (reaches_end first && begins_at_start last))

-- a request stays within 4,096 bytes
unfoldable pub crosses : ℕ → ℕ → Bool
crosses count address = nat_lt 4096 (address / 4 * 4 % 4096 + 4 * count)

-- fields of bytes 1 and 2 that this profile wants to be 0: T9, TC, T8, LN, TH, TD and EP
unfoldable pub has_bad_common : List ℕ → Bool
has_bad_common bytes =
    is_set (slice_index bytes 1) 7 || not (bits (slice_index bytes 1) 4 3 == 0) || is_set (slice_index bytes 1) 3
    || is_set (slice_index bytes 1) 1 || is_set (slice_index bytes 1) 0
    || is_set (slice_index bytes 2) 7 || is_set (slice_index bytes 2) 6

-- what an address is a multiple of, in bytes: a DW, or the two of a FetchAdd's operand
abbrev pub unit_of : Kind → ℕ → ℕ
unit_of kind length = if is_fetch_add kind && (length == 2) then 8 else 4

-- an address is one of a whole unit; a completion has no BCM, and one of the four statuses
unfoldable pub has_bad_field : Kind → List ℕ → Bool
has_bad_field kind bytes =
    has_bad_common bytes
    || (has_address kind && not (address_at bytes % unit_of kind (length_at bytes) == 0))
    || (is_completion kind && (is_set (slice_index bytes 6) 4 || is_none (status_at bytes)))

-- the first cause that applies, in the order of their numbers
unfoldable pub malformed_of_kind : Kind → List ℕ → Option Malformed
malformed_of_kind kind bytes =
    if has_bad_size kind bytes then Some Size
    else (if is_memory kind && has_bad_enables (dw_count (length_at bytes)) (address_at bytes) (slice_index bytes 7 % 16) (slice_index bytes 7 / 16) then Some BadEnables
    else (if is_memory kind && crosses (dw_count (length_at bytes)) (address_at bytes) then Some Crosses
    else (if has_address kind && has_4dw_header_at bytes && nat_lt (address_at bytes) (2 ^ 32) then Some HighForm
    else (if has_bad_field kind bytes then Some Field else None))))

abbrev pub malformed_of : Option Kind → List ℕ → Option Malformed
malformed_of None bytes = Some NoKind
malformed_of (Some kind) bytes = malformed_of_kind kind bytes

unfoldable pub malformed : List ℕ → Option Malformed
malformed bytes = if is_short bytes then Some Short else malformed_of (kind_at (fmt_at bytes) (type_at bytes)) bytes
