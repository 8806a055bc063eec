-- Where no rule is broken, no condition holds.
use Rattle.std.proofs.Common.{◌≡◌, Bool, true, false, cond, List, Option, Some, None, refl}
use Rattle.std.specs.Prelude.{◌||◌, nat_lt}
use Rattle.fab_types.specs.declared.faults.layout.LayoutCause.{LayoutCause}
use Rattle.fab_types.specs.declared.faults.layout.LayoutCause.TheVariants as cause
use Rattle.platform.specs.declared.parts.DownstreamPort.{DownstreamPort}
use Rattle.layout_line.specs.declared.lines.PortText.{PortText}
use Rattle.platform.specs.declared.parts.LayoutVersion.{LayoutVersion}
use Rattle.fab_types.specs.Id.{bus_of}
use Rattle.platform.proofs.Bools.{or-first, or-second}
use Rattle.layout.specs.Rules.{port_fault_below, has_bad_fields, has_vectors, last_controls, is_past_port_limits, buses_meet, buses_are_outside, windows_meet, window_is_outside, owner_differs}

pub none-first : (b : Bool) (refusal : LayoutCause) (rest : Option LayoutCause) → None ≡ cond b (Some refusal) rest → b ≡ false
none-first true refusal rest e = absurd cc
none-first false refusal rest e = refl

pub none-rest : (b : Bool) (refusal : LayoutCause) (rest : Option LayoutCause) → None ≡ cond b (Some refusal) rest → None ≡ rest
none-rest true refusal rest e = absurd cc
none-rest false refusal rest e = e

pub three-none : (a b c : Bool) (x y z : LayoutCause) → None ≡ cond a (Some x) (cond b (Some y) (cond c (Some z) None)) → (a ≡ false) × (b ≡ false) × (c ≡ false)
three-none true b c x y z e = absurd cc
three-none false true c x y z e = absurd cc
three-none false false true x y z e = absurd cc
three-none false false false x y z e = (refl, refl, refl)

pub four-none : (a b c d : Bool) (x y z w : LayoutCause) → None ≡ cond a (Some x) (cond b (Some y) (cond c (Some z) (cond d (Some w) None))) → (a ≡ false) × (b ≡ false) × (c ≡ false) × (d ≡ false)
four-none true b c d x y z w e = absurd cc
four-none false true c d x y z w e = absurd cc
four-none false false true d x y z w e = absurd cc
four-none false false false true x y z w e = absurd cc
four-none false false false false x y z w e = (refl, refl, refl, refl)

four-rest : (a b c d : Bool) (x y z w : LayoutCause) (rest : Option LayoutCause) → None ≡ cond a (Some x) (cond b (Some y) (cond c (Some z) (cond d (Some w) rest))) → (a ≡ false) × (b ≡ false) × (c ≡ false) × (d ≡ false) × (None ≡ rest)
four-rest true b c d x y z w rest e = absurd cc
four-rest false true c d x y z w rest e = absurd cc
four-rest false false true d x y z w rest e = absurd cc
four-rest false false false true x y z w rest e = absurd cc
four-rest false false false false x y z w rest e = (refl, refl, refl, refl, e)

-- none of the rules for a port is broken
pub record IsGoodPort (ports : List DownstreamPort) (above : Option DownstreamPort) (port : PortText) : Type 0 where
  pub fields : has_bad_fields ports port ≡ false
  pub vectors : has_vectors ports (bus_of port.id) ≡ false
  pub limits : is_past_port_limits ports port ≡ false
  pub buses : buses_meet ports port ≡ false
  pub outside : buses_are_outside above port ≡ false
  pub windows : windows_meet ports port ≡ false
  pub window : window_is_outside above port ≡ false
  pub owner : owner_differs above port ≡ false

pub good-port : (version : LayoutVersion) (ports : List DownstreamPort) (above : Option DownstreamPort) (port : PortText) → None ≡ port_fault_below version ports above port → IsGoodPort ports above port
unfolding port_fault_below
good-port version ports above port none =
    let first = four-rest (has_bad_fields ports port || has_vectors ports (bus_of port.id)) (is_past_port_limits ports port) (buses_meet ports port) (buses_are_outside above port) cause.Line cause.Limit cause.BusOverlap cause.BusOutside
    (cond (windows_meet ports port) (Some cause.WindowOverlap) (cond (window_is_outside above port) (Some cause.WindowOutside) (cond (owner_differs above port) (Some cause.OwnerMixed) (cond (nat_lt (last_controls version) port.controls) (Some cause.AcsUnknown) None)))) none in
    let last = four-none (windows_meet ports port) (window_is_outside above port) (owner_differs above port) (nat_lt (last_controls version) port.controls) cause.WindowOverlap cause.WindowOutside cause.OwnerMixed cause.AcsUnknown first.4 in
    record { fields = or-first _ _ first.0; vectors = or-second (has_bad_fields ports port) (has_vectors ports (bus_of port.id)) first.0; limits = first.1; buses = first.2; outside = first.3; windows = last.0; window = last.1; owner = last.2 }
