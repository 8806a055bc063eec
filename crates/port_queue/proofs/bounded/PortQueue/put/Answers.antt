use Rattle.std.proofs.Common.{◌∷◌, ◌++◌, [], ◌<◌, List, length, ap, ◌∙◌, arith, rules, None, refl}
use Rattle.ordering.specs.Ordering.{Class}
use Rattle.port_queue.specs.Arrivals.{Entry}
use Rattle.port_queue.specs.PerClass.{at_class, with_class}
use Rattle.port_queue.specs.Queue.{Queue, count_of}
use Rattle.port_queue.proofs.Arriving.{count_of-waiting}
use Rattle.port_queue.proofs.Taking.{Adds, at_class-own, at_class-other}
use Rattle.port_queue.proofs.Keeping.{kept_filled, kept_added, waiting-added}
use Rattle.port_queue.proofs.bounded.PortQueue.put.Goals as goal

pub fresh_number-number-requires : goal.fresh_number-number-requires
fresh_number-number-requires g c = (search rules, kept_filled g.row.CAP (at_class c.self.inside.queues) c.self.inside.next c.self.inside.gap c.self.invariant)

pub push_back-requires : goal.push_back-requires
push_back-requires g c =
    let same = ap length c.get_mut.ensures.value in
    let count = count_of-waiting (at_class c.fresh_number-number.new.queues) c.args.class in
    let old = ap (count_of c.args.class) c.fresh_number-number.ensures.waiting in
    let view = ap (λ (q : Queue g.row.T.Denot). count_of c.args.class q.waiting) c.self.view_is in
    let room = c.requires in
    (search rules, omega arith)

adds : (g : _) (c : goal.After-self-3-1 g) → Adds (at_class c.fresh_number-number.new.queues) (at_class (with_class c.fresh_number-number.new.queues c.args.class c.push_back.new.self)) c.args.class (record { number = c.fresh_number-number.result; item = c.args.item })
adds g c =
    let entry : Entry g.row.T.Denot = record { number = c.fresh_number-number.result; item = c.args.item } in
    record {
      own = at_class-own c.fresh_number-number.new.queues c.args.class c.push_back.new.self ∙ (c.push_back.ensures ∙ ap (λ (q : List (Entry g.row.T.Denot)). q ++ entry ∷ []) c.get_mut.ensures.value);
      others = λ d other. at_class-other c.fresh_number-number.new.queues c.args.class d c.push_back.new.self other;
    }

room_is : (g : _) (c : goal.After-self-3-1 g) → length (at_class c.fresh_number-number.new.queues c.args.class) < g.row.CAP
room_is g c =
    let count = count_of-waiting (at_class c.fresh_number-number.new.queues) c.args.class in
    let old = ap (count_of c.args.class) c.fresh_number-number.ensures.waiting in
    let view = ap (λ (q : Queue g.row.T.Denot). count_of c.args.class q.waiting) c.self.view_is in
    let room = c.requires in
    omega arith

pub invariant_of-self : goal.invariant_of-self
invariant_of-self g c =
    kept_added g.row.CAP (at_class c.fresh_number-number.new.queues) (at_class (with_class c.fresh_number-number.new.queues c.args.class c.push_back.new.self)) c.fresh_number-number.result None c.args.class (record { number = c.fresh_number-number.result; item = c.args.item })
    c.fresh_number-number.ensures.kept (adds g c) refl (room_is g c)

pub returns : goal.returns
returns g c =
    let queue : List (Class × g.row.T.Denot) → Queue g.row.T.Denot = λ ws. record { waiting = ws; gap = None } in
    ap queue (waiting-added (at_class c.fresh_number-number.new.queues) (at_class (with_class c.fresh_number-number.new.queues c.args.class c.push_back.new.self)) c.fresh_number-number.result c.args.class (record { number = c.fresh_number-number.result; item = c.args.item }) c.fresh_number-number.ensures.kept.sound (adds g c) refl
    ∙ ap (λ (ws : List (Class × g.row.T.Denot)). ws ++ (c.args.class, c.args.item) ∷ []) (c.fresh_number-number.ensures.waiting ∙ ap (λ (q : Queue g.row.T.Denot). q.waiting) c.self.view_is))
