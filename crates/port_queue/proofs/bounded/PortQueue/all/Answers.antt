use Rattle.std.proofs.Common.{◌≡◌, ◌++◌, map, List, ap, subst}
use Rattle.std.specs.List.Sorted.{IsPermutation}
use Rattle.fab_types.specs.declared.class.Class.{Class}
use Rattle.port_queue.specs.Arrivals.{Entry}
use Rattle.port_queue.specs.PerClass.{at_class}
use Rattle.port_queue.specs.Queue.{Queue}
use Rattle.port_queue.proofs.Everything.{waiting_items}
use Rattle.port_queue.proofs.bounded.PortQueue.all.Goals as goal

pub returns : goal.returns
returns g c =
    let items = map (λ item. item.now) c.in_ok-items_of.field-0.items in
    let f = at_class c.self.inside.queues in
    let each : List (Entry g.row.T.Denot) → List g.row.T.Denot = map (λ entry. entry.item) in
    let posted : each c.deque.result.now.items ≡ each (f Class.Posted) = ap each c.deque.ensures in
    let non_posted : each c.deque-2.result.now.items ≡ each (f Class.NonPosted) = ap each c.deque-2.ensures in
    let completion : each c.deque-3.result.now.items ≡ each (f Class.Completion) = ap each c.deque-3.ensures in
    let is : items ≡ each (f Class.Posted) ++ each (f Class.NonPosted) ++ each (f Class.Completion) = cc c.in_ok-items_of.ensures in
    subst (λ (q : Queue g.row.T.Denot). IsPermutation items (map (λ w. w.1) q.waiting)) c.self.view_is (waiting_items f items is)
