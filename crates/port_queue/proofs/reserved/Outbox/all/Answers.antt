use Rattle.std.proofs.Common.{map, subst}
use Rattle.std.specs.List.Sorted.{IsPermutation}
use Rattle.port_queue.specs.Outgoing.{Outgoing, entries_of}
use Rattle.port_queue.proofs.Everything.{waiting_items}
use Rattle.port_queue.proofs.reserved.Outbox.all.Goals as goal

pub returns : goal.returns
returns g c =
    let items = map (λ item. item.now) c.in_ok-items_of.field-0.items in
    subst (λ (o : Outgoing g.row.T.Denot). IsPermutation items (map (λ w. w.1) o.queue.waiting)) c.self.view_is (waiting_items (entries_of c.self.inside.queues) items c.in_ok-items_of.ensures)
