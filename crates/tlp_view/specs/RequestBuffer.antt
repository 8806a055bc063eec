-- What a request's buffer keeps of its bytes.
use Rattle.std.specs.Prelude.{◌≡◌, ◌≤◌, ◌*◌, ℕ, Bool, true, false, List, length, if◌then◌else◌}
use Rattle.tlp_view.specs.declared.kind.Kind.{Kind}
use Rattle.tlp_view.specs.Kinds.{is_memory, is_one_dw, has_data, has_form, type_of}
use Rattle.tlp_view.specs.Bytes.{packet_of}
use Rattle.tlp_view.specs.Spelling.{Spells}
use Rattle.tlp_view.specs.Requests.{packet_bytes}

-- the bytes are a well-formed packet, with 0 in each bit that has no field
pub record IsRequestBuffer (bytes : List ℕ) : Type 0 where
  pub small : length bytes ≤ 272
  pub spelled : Spells bytes (packet_of bytes)
  pub plain : bytes ≡ packet_bytes (packet_of bytes)

-- a request of this kind for so many DW has this payload
pub record IsMade (kind : Kind) (count : ℕ) (payload : List ℕ) : Type 0 where
  pub memory : is_memory kind ≡ true
  pub many : is_one_dw kind ≡ false
  pub type_is : type_of kind 0 ≡ 0
  pub form : (has_4dw_header : Bool) → has_form kind has_4dw_header ≡ true
  pub sized : length payload ≡ (if has_data kind then 4 * count else 0)
  pub small : length payload ≤ 256
