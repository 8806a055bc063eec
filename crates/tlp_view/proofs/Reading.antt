-- Reading, by the spelling of packets.
use Rattle.std.proofs.Common.{◌≡◌, List, ℕ, Result, Ok, Err, Some, None, IfOk, IfErr, sym, ap, ◌∙◌, subst}
use Rattle.fab_types.specs.declared.faults.malformed.Malformed.{Malformed}
use Rattle.tlp_view.specs.Packet.{Packet}
use Rattle.tlp_view.specs.Bytes.{packet_of}
use Rattle.tlp_view.specs.Malformed.{malformed}
use Rattle.tlp_view.specs.Spelling.{Spells}
use Rattle.tlp_view.proofs.Again.{packet_of-spelled}
use Rattle.tlp_view.proofs.HeaderBytes.{IsBytes}
use Rattle.tlp_view.proofs.Spelled.{spelled}

-- what an exact reader answers
abbrev pub IsExact : List ℕ → Result Packet Malformed → Type 0
IsExact bytes result = IfOk result (λ v. (malformed bytes ≡ None) × (v ≡ packet_of bytes)) × IfErr result (λ m. malformed bytes ≡ Some m)

pub found_from : (bytes : List ℕ) (result : Result Packet Malformed) → IsBytes bytes → IsExact bytes result → IfOk result (λ v. Spells bytes v)
found_from bytes (Ok v) fits exact = subst (Spells bytes) (sym exact.0.1) (spelled bytes fits exact.0.0)
found_from bytes (Err m) fits exact = tt

pub only_from : (bytes : List ℕ) (result : Result Packet Malformed) → IsExact bytes result → (t : Packet) → Spells bytes t → result ≡ Ok t
only_from bytes (Ok v) exact t s = ap Ok (exact.0.1 ∙ packet_of-spelled bytes t s)
only_from bytes (Err m) exact t s = let e = s.well_formed in let f = exact.1 in cc
