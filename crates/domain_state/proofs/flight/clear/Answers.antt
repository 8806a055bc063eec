use Rattle.std.proofs.Common.{◌∙◌, sym, arith}
use Rattle.domain_state.proofs.FlightLemmas.{held-set}
use Rattle.domain_state.proofs.flight.clear.Goals as goal

pub overflow_sub-held : goal.overflow_sub-held
overflow_sub-held c = omega (arith, held-set c.args.slots.now c.args.index _ c.if-index-slots.true (sym c.is_some.ensures ∙ c.if-is_some.true), c.requires)

pub returns-then-is_some-clause-held : goal.returns-then-is_some-clause-held
returns-then-is_some-clause-held c = omega (arith, held-set c.args.slots.now c.args.index _ c.if-index-slots.true (sym c.is_some.ensures ∙ c.if-is_some.true), c.requires)
