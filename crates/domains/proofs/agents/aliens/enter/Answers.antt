use Rattle.std.proofs.Common.{sym, ◌∙◌}
use Rattle.domains.proofs.AlienPlaces.{made_so, on_any, places_made}
use Rattle.domains.proofs.agents.aliens.enter.Goals as goal

pub returns-clause-places : goal.returns-clause-places
returns-clause-places c =
    let made = made_so c.make_places.result (sym c.is_err.ensures.value ∙ c.if-is_err.false) c.make_places.ensures.ok in
    on_any c.alien.result (places_made c.args.domains.now c.args.number c.in-Some.domain.now c.args.outboxes.now c.make_places.new.outboxes c.in-Some.ensures.value (rw (← c.start.ensures) made))
