use Rattle.std.proofs.Common.{refl, sym, arith}
use Rattle.std.specs.Arc.{arc_value}
use Rattle.domain_state.proofs.FlightLemmas.{held-le, held-push, slots_push}
use Rattle.domain_state.proofs.flight.Flight.put.Goals as goal

pub overflow_add-self : goal.overflow_add-self
overflow_add-self c = omega (arith, held-le c.self.inside.slots.items, c.self.invariant.held)

pub invariant_of-self-3 : goal.invariant_of-self-3
invariant_of-self-3 c = record {
  slots = slots_push (arc_value c.self.inside.log) c.self.inside.slots.items c.reserve.new.self.items c.push_reserved.new.self.items _ _ c.args.bytes
      c.self.invariant.slots c.reserve.ensures.items c.push_reserved.ensures.items (rw c.deref.ensures at c.in_ok-frame.ensures.token) c.in_ok-frame.ensures.entry refl c.requires.well_made c.requires.short c.requires.read;
  held = rw (c.push_reserved.ensures.items, c.reserve.ensures.items) (rw c.self.invariant.held (sym (held-push c.self.inside.slots.items _)));
  gone = c.self.invariant.gone;
}
