use Rattle.std.proofs.Common.{List, Option, None, ℕ, ◌≡◌, ◌+◌, ◌++◌, replicate, slice_set, sym, ap, subst, ◌∙◌, arith}
use Rattle.std.proofs.lemmas.List.{with_items_is}
use Rattle.request_handling.specs.Emissions.{Emission}
use Rattle.domain_state.specs.Flights.{emissions, flight_over}
use Rattle.domain_state.proofs.FlightLemmas.{emissions-clear, set-behind, set-gone}
use Rattle.domain_state.proofs.flight.Flight.end.Goals as goal

pub returns-in_default : goal.returns-in_default
returns-in_default c =
    subst (λ (es : List (Option Emission)). es ≡ slice_set es c.args.number None) c.self.view_is (sym (set-gone c.self.inside.gone c.args.number _ (omega (arith, c.in_default.ensures))))

pub returns : goal.returns
returns c =
    let gone = c.self.inside.gone in
    let index = c.in-Some.index in
    let es = emissions c.self.inside.slots.items in
    let cleared = ap emissions (with_items_is c.self.inside.slots c.clear.new.slots (omega arith))
    ∙ emissions-clear c.self.inside.slots.items _ _ index c.clear.ensures.slots c.deref_mut.ensures.value in
    let number : gone + index ≡ c.args.number = omega (arith, c.in-Some.ensures) in
    c.restart.ensures.flight ∙ ap (λ (xs : List (Option Emission)). replicate gone None ++ xs) cleared
    ∙ sym (set-behind gone index es) ∙ ap (λ (n : ℕ). slice_set (flight_over gone c.self.inside.slots.items) n None) number
    ∙ ap (λ (xs : List (Option Emission)). slice_set xs c.args.number None) c.self.view_is
