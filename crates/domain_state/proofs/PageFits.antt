-- A well-formed memory write or FetchAdd stays in its page, and the runs of a write in its payload.
use Rattle.std.proofs.Common.{◌≡◌, ℕ, ◌+◌, ◌*◌, ◌/◌, ◌%◌, ◌≤◌, Bool, true, false, cond, ◌||◌, not, ◌==◌, List, [], ◌∷◌, length, drop, Option, Some, None, IfSome, zero, suc, refl, ap, ◌∙◌, subst, arith, length-drop}
use Rattle.std.specs.Prelude.{unwrap_or}
use Rattle.std.specs.List.{AllByRecursion}
use Rattle.std.proofs.lemmas.Bool.{ltb-false, eqb-true}
use Rattle.fab_types.specs.declared.faults.malformed.Malformed.{Malformed}
use Rattle.fab_types.specs.declared.faults.malformed.Malformed.TheVariants.{Short, Size, Enables as BadEnables, Crosses, HighForm, Field}
use Rattle.tlp_view.specs.declared.enables.Enables.{Enables}
use Rattle.tlp_view.specs.declared.kind.Kind.{Kind}
use Rattle.tlp_view.specs.declared.kind.Kind.TheVariants.{MWr}
use Rattle.tlp_view.specs.Packet.{Packet, dw_count, address_in, enables_in}
use Rattle.tlp_view.specs.Kinds.{is_fetch_add, kind_at}
use Rattle.tlp_view.specs.Bytes.{fmt_at, type_at, header_len, length_at, address_at, packet_of, packet_of_kind}
use Rattle.tlp_view.specs.Malformed.{is_short, has_bad_size, crosses, has_bad_field, has_bad_common, malformed, malformed_of, malformed_of_kind}
use Rattle.tlp_view.specs.Runs.{is_enabled, joined, runs_from, runs_with, is_write, runs}
use Rattle.tlp_view.specs.View.{IsSound, IsView}
use Rattle.host_memory.specs.Additions.{is_operand}
use Rattle.tlp_view.proofs.Operands.{operand_size}
use Rattle.tlp_view.proofs.Sound.{well_formed_sound}
use Rattle.tlp_view.proofs.WellFormed.{view_from, packet-kind}

-- a test that found no cause
no_cause : (b : Bool) (m : Malformed) (rest : Option Malformed) → cond b (Some m) rest ≡ None → (b ≡ false) × (rest ≡ None)
no_cause true m rest e = absurd cc
no_cause false m rest e = (refl, e)

or_false : (a b : Bool) → (a || b) ≡ false → (a ≡ false) × (b ≡ false)
or_false true b e = absurd cc
or_false false b e = (refl, e)

not_false : (b : Bool) → not b ≡ false → b ≡ true
not_false true e = refl
not_false false e = absurd cc

write_ends : (bytes : List ℕ) → malformed_of_kind MWr bytes ≡ None → address_at bytes % 4096 + 4 * dw_count (length_at bytes) ≤ 4096
unfolding malformed_of_kind address_at crosses has_bad_common has_bad_field
write_ends bytes e =
    let p1 = no_cause (has_bad_size MWr bytes) Size _ e in
    let p2 = no_cause _ BadEnables _ p1.1 in
    let p3 = no_cause (crosses (dw_count (length_at bytes)) (address_at bytes)) Crosses _ p2.1 in
    let p4 = no_cause _ HighForm _ p3.1 in
    let p5 = no_cause (has_bad_field MWr bytes) Field None p4.1 in
    let within : address_at bytes / 4 * 4 % 4096 + 4 * dw_count (length_at bytes) ≤ 4096 = ltb-false 4096 (address_at bytes / 4 * 4 % 4096 + 4 * dw_count (length_at bytes)) p3.0 in
    let field = or_false (has_bad_common bytes || not (address_at bytes % 4 == 0)) false p5.0 in
    let whole : address_at bytes % 4 ≡ 0 = eqb-true (address_at bytes % 4) 0 (not_false (address_at bytes % 4 == 0) ((or_false (has_bad_common bytes) (not (address_at bytes % 4 == 0)) field.0).1)) in
    let same : address_at bytes / 4 * 4 ≡ address_at bytes = omega (arith, whole) in
    subst (λ (a : ℕ). a % 4096 + 4 * dw_count (length_at bytes) ≤ 4096) same within

fits_kind : (kind : Kind) (bytes : List ℕ) → IsView kind bytes → malformed_of_kind kind bytes ≡ None → is_write kind ≡ true
    → unwrap_or (address_in (packet_of_kind kind bytes).body) 0 % 4096 + length (packet_of_kind kind bytes).payload ≤ 4096
fits_kind MWr bytes v e w =
    let len : length (drop (header_len bytes) bytes) ≡ 4 * dw_count (length_at bytes) = omega (arith, v.size, length-drop (header_len bytes) bytes) in
    omega (arith, write_ends bytes e, len)
fits_kind _ bytes v e w = absurd cc

by_kind : (bytes : List ℕ) (o : Option Kind) → kind_at (fmt_at bytes) (type_at bytes) ≡ o → is_short bytes ≡ false → malformed_of o bytes ≡ None → is_write (packet_of bytes).kind ≡ true
    → unwrap_or (address_in (packet_of bytes).body) 0 % 4096 + length (packet_of bytes).payload ≤ 4096
by_kind bytes None k s e w = absurd cc
by_kind bytes (Some kind) k s e w =
    let same = packet-kind bytes kind k in
    subst (λ (t : Packet). unwrap_or (address_in t.body) 0 % 4096 + length t.payload ≤ 4096) same
    (fits_kind kind bytes (view_from bytes kind s k e) e (ap (λ (t : Packet). is_write t.kind) same ∙ w))

by_length : (bytes : List ℕ) (short : Bool) → is_short bytes ≡ short → cond short (Some Short) (malformed_of (kind_at (fmt_at bytes) (type_at bytes)) bytes) ≡ None → is_write (packet_of bytes).kind ≡ true
    → unwrap_or (address_in (packet_of bytes).body) 0 % 4096 + length (packet_of bytes).payload ≤ 4096
by_length bytes true s e w = absurd cc
by_length bytes false s e w = by_kind bytes (kind_at (fmt_at bytes) (type_at bytes)) refl s e w

-- a write ends within the page of its address
pub write_in_page : (bytes : List ℕ) → malformed bytes ≡ None → is_write (packet_of bytes).kind ≡ true
    → unwrap_or (address_in (packet_of bytes).body) 0 % 4096 + length (packet_of bytes).payload ≤ 4096
unfolding malformed
write_in_page bytes e w = by_length bytes (is_short bytes) refl e w

-- ---- the operand of a FetchAdd

-- one DW or two are an operand
operand_bytes : (size count : ℕ) → size ≡ 4 * count → 1 ≤ count → count ≤ 2 → is_operand size ≡ true
operand_bytes size zero is some few = absurd (omega (arith, some))
operand_bytes size (suc zero) is some few = ap is_operand is
operand_bytes size (suc (suc zero)) is some few = ap is_operand is
operand_bytes size (suc (suc (suc n))) is some few = absurd (omega (arith, few))

-- what has no address counts as one at 0
ends_within : (o : Option ℕ) (n : ℕ) → n ≤ 2 → IfSome o (λ a. a % 4096 + 4 * n ≤ 4096) → unwrap_or o 0 % 4096 + 4 * n ≤ 4096
ends_within None n small h = omega (arith, small)
ends_within (Some a) n small h = h

operand_of : (t : Packet) → IsSound t → is_fetch_add t.kind ≡ true → (is_operand (length t.payload) ≡ true) × (unwrap_or (address_in t.body) 0 % 4096 + length t.payload ≤ 4096)
operand_of t sound f =
    let size = operand_size t sound f in
    (operand_bytes (length t.payload) (dw_count t.length) size.0 size.1 size.2, omega (arith, size.0, ends_within (address_in t.body) (dw_count t.length) size.2 sound.within))

-- a FetchAdd's operand has 4 bytes or 8, and ends within the page of its address
pub operand_in_page : (bytes : List ℕ) → malformed bytes ≡ None → is_fetch_add (packet_of bytes).kind ≡ true
    → (is_operand (length (packet_of bytes).payload) ≡ true) × (unwrap_or (address_in (packet_of bytes).body) 0 % 4096 + length (packet_of bytes).payload ≤ 4096)
operand_in_page bytes good f = operand_of (packet_of bytes) (well_formed_sound bytes good) f

-- ---- runs

-- a run lies between two places
abbrev pub IsWithin : ℕ → ℕ → ℕ × List ℕ → Type 0
IsWithin low high run = (low ≤ run.0) × (run.0 + length run.1 ≤ high)

wider : (low low' high : ℕ) (runs : List (ℕ × List ℕ)) → low' ≤ low → AllByRecursion (IsWithin low high) runs → AllByRecursion (IsWithin low' high) runs
wider low low' high [] le h = tt
wider low low' high (run ∷ runs) le h = ((omega (arith, h.0.0), h.0.1), wider low low' high runs le h.1)

joins_by : (i high byte : ℕ) (run : ℕ × List ℕ) (runs : List (ℕ × List ℕ)) (b : Bool) → (b ≡ true → run.0 ≡ i + 1) → i + 1 ≤ high → AllByRecursion (IsWithin (i + 1) high) (run ∷ runs)
    → AllByRecursion (IsWithin i high) (cond b ((i, byte ∷ run.1) ∷ runs) ((i, byte ∷ []) ∷ run ∷ runs))
joins_by i high byte run runs true is le h = ((omega arith, omega (arith, is refl, h.0.1)), wider (i + 1) i high runs (omega arith) h.1)
joins_by i high byte run runs false is le h = ((omega arith, omega arith), wider (i + 1) i high (run ∷ runs) (omega arith) h)

joins : (i high byte : ℕ) (runs : List (ℕ × List ℕ)) → i + 1 ≤ high → AllByRecursion (IsWithin (i + 1) high) runs → AllByRecursion (IsWithin i high) (joined i byte runs)
joins i high byte [] le h = ((omega arith, omega arith), tt)
joins i high byte (run ∷ runs) le h = joins_by i high byte run runs (run.0 == i + 1) (eqb-true run.0 (i + 1)) le h

one_more : (b : Bool) (i high byte : ℕ) (runs : List (ℕ × List ℕ)) → i + 1 ≤ high → AllByRecursion (IsWithin (i + 1) high) runs → AllByRecursion (IsWithin i high) (cond b (joined i byte runs) runs)
one_more true i high byte runs le h = joins i high byte runs le h
one_more false i high byte runs le h = wider (i + 1) i high runs (omega arith) h

runs_from-within : (enabled : ℕ → Bool) (i high : ℕ) (bytes : List ℕ) → i + length bytes ≤ high → AllByRecursion (IsWithin i high) (runs_from enabled i bytes)
runs_from-within enabled i high [] le = tt
runs_from-within enabled i high (byte ∷ bytes) le = one_more (enabled i) i high byte (runs_from enabled (i + 1) bytes) (omega arith) (runs_from-within enabled (i + 1) high bytes (omega arith))

-- each run of a packet lies in its payload
pub runs-within : (t : Packet) → AllByRecursion (IsWithin 0 (length t.payload)) (runs t)
runs-within t = of_write (is_write t.kind) where
  of_write : (b : Bool) → AllByRecursion (IsWithin 0 (length t.payload)) (cond b (runs_with (enables_in t.body) t.payload) [])
  of_write true = of_enables (enables_in t.body) where
    of_enables : (o : Option Enables) → AllByRecursion (IsWithin 0 (length t.payload)) (runs_with o t.payload)
    of_enables None = tt
    of_enables (Some enables) = runs_from-within (is_enabled enables (length t.payload)) 0 (length t.payload) t.payload (omega arith)
  of_write false = tt
