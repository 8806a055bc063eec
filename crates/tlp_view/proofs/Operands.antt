-- The operand of a FetchAdd has one DW or two.
use Rattle.std.proofs.Common.{◌≡◌, ℕ, ◌*◌, ◌≤◌, true, false, cond, List, length, ◌⊎◌, inl, inr, refl, ap, ◌∙◌, arith}
use Rattle.std.proofs.lemmas.Bool.{and_cases, cond-true, eqb-true, not-false}
use Rattle.tlp_view.specs.declared.kind.Kind.{Kind}
use Rattle.tlp_view.specs.declared.kind.Kind.TheVariants.{FetchAdd}
use Rattle.tlp_view.specs.Kinds.{has_data, is_fetch_add}
use Rattle.tlp_view.specs.Malformed.{has_bad_length}
use Rattle.tlp_view.specs.Packet.{Packet, dw_count}
use Rattle.tlp_view.specs.View.{IsSound}

pub operand_length : (kind : Kind) (length : ℕ) → is_fetch_add kind ≡ true → has_bad_length kind length ≡ false → (length ≡ 1) ⊎ (length ≡ 2)
operand_length FetchAdd length f fine = elim (and_cases _ _ fine) [
  | inl one ↦ inl (eqb-true length 1 (not-false _ one))
  | inr two ↦ inr (eqb-true length 2 (not-false _ two))
]
operand_length _ length f fine = absurd cc

adds_data : (kind : Kind) → is_fetch_add kind ≡ true → has_data kind ≡ true
adds_data FetchAdd f = refl
adds_data _ f = absurd cc

few : (length : ℕ) → (length ≡ 1) ⊎ (length ≡ 2) → (1 ≤ dw_count length) × (dw_count length ≤ 2)
few length (inl one) = rw one (omega arith, omega arith)
few length (inr two) = rw two (omega arith, omega arith)

-- it is the payload
pub operand_size : (t : Packet) → IsSound t → is_fetch_add t.kind ≡ true → (length t.payload ≡ 4 * dw_count t.length) × (1 ≤ dw_count t.length) × (dw_count t.length ≤ 2)
operand_size t sound f =
    let size : length t.payload ≡ 4 * dw_count t.length = sound.sized ∙ cond-true (has_data t.kind) (4 * dw_count t.length) 0 (adds_data t.kind f) in
    let many = few t.length (operand_length t.kind t.length f sound.counted) in
    (size, many.0, many.1)
