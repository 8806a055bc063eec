use Rattle.std.proofs.Common.{◌≡◌, false, rules}
use Rattle.fab_types.specs.declared.class.Class.TheVariants.{Posted, NonPosted, Completion}
use Rattle.outboxes.specs.Outboxes.{takes}
use Rattle.thread_workers.proofs.Rooms.{cramped_by}
use Rattle.thread_workers.proofs.ends.room.has_room.Goals as goal

pub returns-then-not-has_place-clause-cramped : goal.returns-then-not-has_place-clause-cramped
returns-then-not-has_place-clause-cramped c = λ _.
    let no : takes c.args.outbox.now Posted ≡ false = search rules in cramped_by c.args.outbox.now Posted no

pub returns-then-not-has_place-2-clause-cramped : goal.returns-then-not-has_place-2-clause-cramped
returns-then-not-has_place-2-clause-cramped c = λ _.
    let no : takes c.args.outbox.now NonPosted ≡ false = search rules in cramped_by c.args.outbox.now NonPosted no

pub returns-clause-cramped : goal.returns-clause-cramped
returns-clause-cramped c = λ is_full.
    let no : takes c.args.outbox.now Completion ≡ false = search rules in cramped_by c.args.outbox.now Completion no
