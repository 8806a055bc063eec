-- A request of the host for a register page. This is the project's own, but for the completion of a read.
use Rattle.std.specs.Prelude.{ℕ, ◌*◌, ◌%◌, ◌≤◌, ◌==◌, Bool, false, ◌&&◌, List, [], ◌∷◌, Option, Some, None, unwrap_or, if◌then◌else◌}
use Rattle.tlp_view.specs.declared.enables.Enables.{Enables}
use Rattle.tlp_view.specs.declared.kind.Kind.{Kind}
use Rattle.tlp_view.specs.declared.kind.Kind.TheVariants.{MRd, MWr}
use Rattle.tlp_view.specs.Packet.{Packet, dw_count, address_in, enables_in}
use Rattle.tlp_view.specs.Runs.{is_write, runs}
use Rattle.tlp_view.specs.Completions.{read_completion}
use Rattle.function.specs.Registers.{read_page, write_page}

-- a write, or a read of at most 64 DW
abbrev pub IsAccessKind : Kind → ℕ → Type 0
IsAccessKind MWr count = Unit {0}
IsAccessKind MRd count = count ≤ 64
IsAccessKind _ count = ⊥

abbrev pub IsAccess : Packet → Type 0
IsAccess t = IsAccessKind t.kind (dw_count t.length)

-- the place in the page that the address names
abbrev pub place_of : Packet → ℕ
place_of t = unwrap_or (address_in t.body) 0 % 4096

-- the page after it
abbrev pub accessed : List ℕ → Packet → List ℕ
accessed page t = if is_write t.kind then write_page page (place_of t) (runs t) else page

abbrev pub enables_none : Option Enables → Bool
enables_none None = false
enables_none (Some enables) = enables.first == 0

-- a read of no bytes has one DW, of which no byte is enabled; it is shown as 0
abbrev pub is_empty_read : Packet → Bool
is_empty_read t = (dw_count t.length == 1) && enables_none (enables_in t.body)

-- what stands where a read asks, if it asks for any bytes
abbrev pub shown_part : List ℕ → Packet → Option (List ℕ)
shown_part page t = if is_empty_read t then None else Some (read_page page (place_of t) (4 * dw_count t.length))

-- disabled bytes are shown too
abbrev pub read_data : List ℕ → Packet → List ℕ
read_data page t = unwrap_or (shown_part page t) (0 ∷ 0 ∷ 0 ∷ 0 ∷ [])

-- the completion, which bears the function's ID; a write has none
abbrev pub answer : ℕ → List ℕ → Packet → Option Packet
answer id page t = if is_write t.kind then None else Some (read_completion id t (read_data page t))
