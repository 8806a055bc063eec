-- The enabled bytes of a memory write (PCIe 4.0, 2.2.5).
use Rattle.std.specs.Prelude.{ℕ, ◌+◌, ◌/◌, ◌%◌, ◌==◌, ◌&&◌, ◌||◌, nat_lt, Bool, true, false, List, [], ◌∷◌, length, Option, Some, None, if◌then◌else◌}
use Rattle.tlp_view.specs.declared.enables.Enables.{Enables}
use Rattle.tlp_view.specs.declared.kind.Kind.{Kind}
use Rattle.tlp_view.specs.declared.kind.Kind.TheVariants.{MWr}
use Rattle.tlp_view.specs.Packet.{Packet, enables_in}
use Rattle.tlp_view.specs.Bytes.{is_set}

-- is byte i of so many enabled? Its bit in the first DW's field, or in the last DW's; between them all are
abbrev pub is_enabled : Enables → ℕ → ℕ → Bool
is_enabled enables count i =
    if i / 4 == 0 then is_set enables.first (i % 4)
    else (if i / 4 + 1 == count / 4 then is_set enables.last (i % 4) else true)

-- the fields of the first DW, and of the last one where that is another, enable all of their bytes
abbrev pub enables_all : Enables → ℕ → Bool
enables_all enables count = enables.first == 15 && (nat_lt count 8 || enables.last == 15)

-- an enabled byte before runs of later bytes: it joins the next run, or is one of its own
abbrev pub joined : ℕ → ℕ → List (ℕ × List ℕ) → List (ℕ × List ℕ)
joined i byte [] = (i, byte ∷ []) ∷ []
joined i byte (run ∷ runs) = if run.0 == i + 1 then (i, byte ∷ run.1) ∷ runs else (i, byte ∷ []) ∷ run ∷ runs

-- the longest runs of enabled bytes, each with its offset, rising
abbrev pub runs_from : (ℕ → Bool) → ℕ → List ℕ → List (ℕ × List ℕ)
runs_from enabled i [] = []
runs_from enabled i (byte ∷ bytes) =
    if enabled i then joined i byte (runs_from enabled (i + 1) bytes) else runs_from enabled (i + 1) bytes

abbrev pub runs_with : Option Enables → List ℕ → List (ℕ × List ℕ)
runs_with None payload = []
runs_with (Some enables) payload = runs_from (is_enabled enables (length payload)) 0 payload

abbrev pub is_write : Kind → Bool
is_write MWr = true
is_write _ = false

-- only a memory write has any
abbrev pub runs : Packet → List (ℕ × List ℕ)
runs t = if is_write t.kind then runs_with (enables_in t.body) t.payload else []
