-- What was laid for a table and dealt out is what the workers have.
use Rattle.std.proofs.Common.{◌≡◌, ℕ, List, map, length, sym, ap, ◌∙◌, subst, Vec, Global}
use Rattle.thread_rings.specs.Wired.{Tags, AreWithin, dealt, table_of}
use Rattle.thread_rings.specs.declared.laid.Laid.{Laid}
use Rattle.thread_rings.specs.declared.wire.Wire.{Wire}
use Rattle.thread_rings.proofs.Undone.{length-dealt}
use Rattle.port_threads.specs.Fabrics.{AreDealt}

pub laid_dealt : {T : Type 0} (count : ℕ) (wires : List Wire) (laid made : List (Laid T)) (ends : List Tags) → map (λ r. r.wire) laid ≡ wires → made ≡ laid → AreWithin count wires
    → ends ≡ dealt count (table_of laid) → AreDealt wires made ends
laid_dealt {T = T} count wires laid made ends lays same within deals =
    let n : length ends ≡ count = ap length deals ∙ length-dealt count (table_of laid) in
    record {
      wires_are = ap (λ (l : List (Laid T)). map (λ r. r.wire) l) same ∙ lays;
      within = subst (λ (x : ℕ). AreWithin x wires) (sym n) within;
      ends = deals ∙ (λ i. dealt (sym n i) (table_of (sym same i)));
    }

-- what two equal vectors hold
pub same_items : {X : Type 0} (v w : Vec X Global) → v ≡ w → v.items ≡ w.items
same_items v w e = λ i. (e i).items
