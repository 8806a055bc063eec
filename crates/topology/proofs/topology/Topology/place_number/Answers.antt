use Rattle.std.proofs.Common.{Some, None, sym, ap, ◌∙◌}
use Rattle.topology.specs.FirstIndexes.{slot_of}
use Rattle.topology.specs.Topologies.{Tree}
use Rattle.topology.proofs.Indexed.{numbered_from_key}
use Rattle.topology.proofs.topology.Topology.place_number.Goals as goal

pub returns-in_err-further-clause-value : goal.returns-in_err-further-clause-value
returns-in_err-further-clause-value c =
    c.from_residual.ensures
    ∙ numbered_from_key slot_of (λ place. place.id) c.args.self.now.places c.args.id c.first_place_in-start.result (slot_of c.id.result) (ap slot_of c.id.ensures) c.first_place_in-start.ensures.value
    c.deref.result.now None (c.deref.ensures.value ∙ ap (λ (t : Tree). t.places) c.self.view_is) (sym c.in_err-further.was ∙ c.find_number.ensures.value)

pub returns-clause-value : goal.returns-clause-value
returns-clause-value c =
    numbered_from_key slot_of (λ place. place.id) c.args.self.now.places c.args.id c.first_place_in-start.result (slot_of c.id.result) (ap slot_of c.id.ensures) c.first_place_in-start.ensures.value
    c.deref.result.now (Some c.in_ok-further.further) (c.deref.ensures.value ∙ ap (λ (t : Tree). t.places) c.self.view_is) (sym c.in_ok-further.was ∙ c.find_number.ensures.value)
