use Rattle.std.proofs.Common.{◌≡◌, List, subst, map}
use Rattle.interconnect.specs.Views.{channels}
use Rattle.fab_types.specs.declared.place.Place.{Place}
use Rattle.packet_places.specs.Noted.{AreNoted, with_place}
use Rattle.packet_places.specs.Standing.{standing_in}
use Rattle.packet_places.proofs.Listed.{listed}
use Rattle.packet_places.proofs.of_domain.packet_places_of.Goals as goal

pub returns-clause-named : goal.returns-clause-named
returns-clause-named c =
    let links = c.args.interconnect.now.tree.links in
    let now = channels c.args.interconnect.now in
    let boxes = c.args.agents.now.outboxes in
    let notes = c.in_ok-found.found.entries in
    let all = c.in_ok-places.places.items in
    listed links now boxes c.args.domain all notes c.in_ok-with_places.field-0.items (let h = c.in_ok-places.ensures in h.value) c.len.ensures.ordered
    (subst (λ (places : List Place). AreNoted (standing_in links now boxes) c.args.domain places places notes) c.deref.ensures.value c.in_ok-found.ensures)
    (subst (λ (places : List Place). (other : Place) → c.in_ok-with_places.field-0.items ≡ map (with_place places other) notes) c.deref-2.ensures.value c.in_ok-with_places.ensures)
