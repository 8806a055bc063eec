use Rattle.std.proofs.Common.{◌==◌, ◌<◌, ℕ, List, ◌∙◌, arith, ap, get_or, length, subst}
use Rattle.topology.specs.FirstIndexes.{place_slots, slot_of}
use Rattle.topology.proofs.Indexed.{first_within, indexed, many_firsts}
use Rattle.topology.proofs.topology.Topology.first_place_in.Goals as goal

pub first-requires : goal.first-requires
first-requires c =
    let many = ap (λ (firsts : List ℕ). length firsts) c.self.invariant.places ∙ many_firsts 8192 (place_slots c.self.inside.places.items) in
    let small = c.slot_of.ensures.small in
    omega (arith, many, small)

pub returns-clause-value : goal.returns-clause-value
returns-clause-value c =
    rw (← c.self.view_is)
    (c.first.ensures ∙ ap (λ (key : ℕ). get_or c.self.inside.places_by_slot key 0) c.slot_of.ensures.value ∙ ap (λ (firsts : List ℕ). get_or firsts (slot_of c.args.id) 0) c.self.invariant.places
    ∙ indexed (λ place. slot_of place.id) c.self.inside.places.items 8192 (slot_of c.args.id) (subst (λ (n : ℕ). n < 8192) c.slot_of.ensures.value c.slot_of.ensures.small))

pub returns-clause-within : goal.returns-clause-within
returns-clause-within c =
    let value = returns-clause-value c in
    let within = first_within (λ place. slot_of place.id == slot_of c.args.id) c.args.self.now.places in
    omega (arith, value, within)
