use Rattle.outboxes.proofs.FullBoxes.{found_set}
use Rattle.std.proofs.Common.{ap}
use Rattle.outboxes.proofs.Changing.{kept_at, same_place, took_at}
use Rattle.outboxes.specs.Outboxes.{BoxView}
use Rattle.outboxes.proofs.changes.take_at.Goals as goal

pub returns-clause-taken : goal.returns-clause-taken
returns-clause-taken c = took_at c.args.boxes.now c.args.place c.index-boxes-place.result c.take.new.self c.args.class c.take.result c.requires c.take.ensures.taken

pub returns-clause-kept : goal.returns-clause-kept
returns-clause-kept c = kept_at c.args.boxes.now c.args.place c.index-boxes-place.result c.take.new.self c.requires c.take.ensures.kept

pub returns-clause-places : goal.returns-clause-places
returns-clause-places c = same_place c.args.boxes.now c.args.place c.index-boxes-place.result c.take.new.self (ap (λ (b : BoxView). b.origin) c.take.ensures.kept)

pub returns-clause-found : goal.returns-clause-found
returns-clause-found c = λ origin is found.
    found_set c.args.boxes.now c.args.place c.index-boxes-place.result c.take.new.self origin c.requires is (ap (λ (b : BoxView). b.origin) c.take.ensures.kept) found
