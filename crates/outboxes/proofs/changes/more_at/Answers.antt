use Rattle.outboxes.proofs.FullBoxes.{found_set}
use Rattle.std.proofs.Common.{get_or}
use Rattle.outboxes.proofs.Changing.{more_keeps_origin, same_place}
use Rattle.outboxes.proofs.changes.more_at.Goals as goal

pub returns-clause-places : goal.returns-clause-places
returns-clause-places c =
    let read = c.index-boxes-place.result in
    same_place c.args.boxes.now c.args.place read c.more.new.self
    (more_keeps_origin c.args.places (get_or c.args.boxes.now c.args.place read) c.more.new.self c.more.result c.more.ensures.ok c.more.ensures.err)

pub returns-clause-found : goal.returns-clause-found
returns-clause-found c = λ origin is found.
    let read = c.index-boxes-place.result in
    found_set c.args.boxes.now c.args.place read c.more.new.self origin c.requires is
    (more_keeps_origin c.args.places (get_or c.args.boxes.now c.args.place read) c.more.new.self c.more.result c.more.ensures.ok c.more.ensures.err) found
