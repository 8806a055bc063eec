use Rattle.std.proofs.Common.{map}
use Rattle.outboxes.specs.Outboxes.{waiting}
use Rattle.thread_totals.proofs.Naming.{noted_turned}
use Rattle.thread_totals.proofs.standing.note_outbox.Goals as goal

pub returns : goal.returns
returns c =
    noted_turned c.args.names.now.items c.note_lent.new.names.items (map (λ frame. frame.now) c.in_ok-waiting.waiting.items) (waiting c.args.outbox.now) c.in_ok-waiting.ensures
    (rw c.deref.ensures.value at c.in_ok-note_lent.ensures)
