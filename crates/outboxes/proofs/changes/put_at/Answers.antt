use Rattle.outboxes.proofs.FullBoxes.{found_set}
use Rattle.std.proofs.Common.{ap}
use Rattle.outboxes.proofs.Changing.{same_place}
use Rattle.outboxes.specs.Outboxes.{BoxView}
use Rattle.outboxes.proofs.changes.put_at.Goals as goal

pub returns-clause-places : goal.returns-clause-places
returns-clause-places c = same_place c.args.boxes.now c.args.place c.index-boxes-place.result c.put.new.self (ap (λ (b : BoxView). b.origin) c.put.ensures)

pub returns-clause-found : goal.returns-clause-found
returns-clause-found c = λ origin is found.
    found_set c.args.boxes.now c.args.place c.index-boxes-place.result c.put.new.self origin c.requires.within is (ap (λ (b : BoxView). b.origin) c.put.ensures) found
