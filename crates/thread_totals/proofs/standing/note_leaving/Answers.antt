use Rattle.std.proofs.Common.{map, subst}
use Rattle.thread_workers.specs.Sides.{LinkSideView, leaving}
use Rattle.thread_totals.specs.Named.{AreNoted}
use Rattle.thread_totals.proofs.Naming.{noted_turned}
use Rattle.thread_totals.proofs.standing.note_leaving.Goals as goal

pub returns : goal.returns
returns c =
    subst (λ (side : LinkSideView). AreNoted c.args.names.now.items (leaving side) c.note_lent.new.names.items) c.side.view_is
    (noted_turned c.args.names.now.items c.note_lent.new.names.items (map (λ frame. frame.now) c.in_ok-waiting.waiting.items) _ c.in_ok-waiting.ensures (rw c.deref.ensures.value at c.in_ok-note_lent.ensures))
