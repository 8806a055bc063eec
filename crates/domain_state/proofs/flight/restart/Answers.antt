use Rattle.std.proofs.Common.{◌≡◌, ◌+◌, ◌∙◌, ℕ, [], ap, length, arith}
use Rattle.domain_state.specs.Flights.{flight_over}
use Rattle.domain_state.proofs.FlightLemmas.{restarted}
use Rattle.domain_state.proofs.flight.restart.Goals as goal

pub returns-then-made-le-MOST_GONE-clause-flight : goal.returns-then-made-le-MOST_GONE-clause-flight
returns-then-made-le-MOST_GONE-clause-flight c =
    let counted : c.args.gone.now + c.len.result ≡ c.args.gone.now + length c.args.slots.now.items = omega (arith, c.len.ensures) in
    rw c.clear.ensures.items (ap (λ (n : ℕ). flight_over n []) counted ∙ restarted c.args.gone.now c.args.slots.now.items (omega (arith, c.requires.held, c.if-held-eq0.true)))
