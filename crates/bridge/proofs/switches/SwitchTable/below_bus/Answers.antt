use Rattle.std.proofs.Common.{◌≡◌, ◌==◌, Bool, ◌∙◌, sym, ap}
use Rattle.std.specs.Option.{option_copied}
use Rattle.std.specs.List.{slice_get}
use Rattle.fab_types.specs.Id.{bus_of}
use Rattle.bridge.specs.Groups.{Group}
use Rattle.bridge.proofs.Finding.{none-found, one-found, got}
use Rattle.bridge.proofs.switches.SwitchTable.below_bus.Goals as goal

pub returns-in_err-place_below : goal.returns-in_err-place_below
returns-in_err-place_below c =
    let below : Group → Bool = λ group. bus_of group.line.id == c.args.bus in
    record {
      value = ap option_copied c.from_residual.ensures ∙ sym (none-found below c.args.self.now (sym c.place_below.ensures ∙ c.in_err-place_below.was));
      firsts = rw (← c.self.view_is) c.self.invariant.firsts;
    }

pub returns : goal.returns
returns c =
    let below : Group → Bool = λ group. bus_of group.line.id == c.args.bus in
    let groups : c.deref.result.now ≡ c.args.self.now = c.deref.ensures.value ∙ c.self.view_is in
    let lent : option_copied c.get.result ≡ slice_get c.args.self.now c.in_ok-place_below.field-0 = rw (← groups) (got c.deref.result.now c.in_ok-place_below.field-0 c.get.result c.get.ensures.lookup) in
    record {
      value = lent ∙ sym (one-found below c.args.self.now c.in_ok-place_below.field-0 (sym c.place_below.ensures ∙ c.in_ok-place_below.was));
      firsts = rw (← c.self.view_is) c.self.invariant.firsts;
    }
