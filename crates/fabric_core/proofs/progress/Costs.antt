-- No packet costs more than a header and 16 data credits (PCIe 4.0, 2.6.1): none has more than 256 bytes of data.
use Rattle.std.proofs.Common.{◌≡◌, ℕ, ◌+◌, ◌/◌, ◌≤◌, List, length, Option, Some, None, refl, sym, arith, subst}
use Rattle.frame_log.specs.Descriptor.{Descriptor}
use Rattle.fab_types.specs.declared.faults.malformed.Malformed.{Malformed}
use Rattle.tlp_view.specs.Bytes.{packet_of}
use Rattle.tlp_view.specs.Costs.{cost_unless}
use Rattle.tlp_view.specs.Malformed.{malformed}
use Rattle.tlp_view.proofs.Sound.{well_formed_sound}
use Rattle.domain.specs.Domains.{DomainView}
use Rattle.fabric_core.specs.Places.{IsFlown}

sixteen : (n : ℕ) → n ≤ 256 → (n + 15) / 16 ≤ 16
sixteen n few = omega (arith, few)

small_unless : (cause : Option Malformed) (bytes : List ℕ) → malformed bytes ≡ cause → (cost_unless cause bytes).«data» ≤ 16
small_unless None bytes e = sixteen (length (packet_of bytes).payload) (well_formed_sound bytes e).small
small_unless (Some cause) bytes e = omega arith

pub small : (domains : List DomainView) (frame : Descriptor) → IsFlown domains frame → frame.head.cost.«data» ≤ 16
small domains frame f = subst (λ (x : Descriptor). x.head.cost.«data» ≤ 16) (sym f.shown) (small_unless (malformed f.emission.bytes) f.emission.bytes refl)
