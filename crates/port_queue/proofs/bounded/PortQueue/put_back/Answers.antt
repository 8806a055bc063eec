use Rattle.std.proofs.Common.{◌∷◌, List, length, sym, ap, ◌∙◌, subst, arith, rules}
use Rattle.std.specs.Prelude.{IsSome}
use Rattle.port_queue.specs.Arrivals.{Entry}
use Rattle.port_queue.specs.PerClass.{at_class, with_class}
use Rattle.port_queue.specs.Queue.{Queue, restored}
use Rattle.port_queue.proofs.Taking.{Fronts, at_class-own, at_class-other}
use Rattle.port_queue.proofs.Heads.{put_back_kept, put_back_waiting, put_back_room}
use Rattle.port_queue.proofs.bounded.PortQueue.put_back.Goals as goal

pub push_front-requires : goal.push_front-requires
push_front-requires g c =
    let P : Queue g.row.T.Denot → Type 0 = λ q. IsSome (restored q c.args.class c.args.item) in
    let room = put_back_room g.row.CAP (at_class c.self.inside.queues) c.self.inside.next c.self.inside.gap c.in-Some.gap c.args.class c.args.item c.self.invariant c.in-Some.is (subst P (sym c.self.view_is) c.requires) in
    let same = ap length c.get_mut.ensures.value in
    (search rules, omega arith)

fronts : (g : _) (c : goal.After-self-2-1 g) → Fronts (at_class (with_class c.self.inside.queues c.args.class c.push_front.new.self)) (at_class c.self.inside.queues) c.args.class (record { number = c.in-Some.gap.number; item = c.args.item })
fronts g c =
    let entry : Entry g.row.T.Denot = record { number = c.in-Some.gap.number; item = c.args.item } in
    record {
      own = at_class-own c.self.inside.queues c.args.class c.push_front.new.self ∙ (c.push_front.ensures ∙ ap (λ (q : List (Entry g.row.T.Denot)). entry ∷ q) c.get_mut.ensures.value);
      others = λ d other. at_class-other c.self.inside.queues c.args.class d c.push_front.new.self other;
    }

pub invariant_of-self : goal.invariant_of-self
invariant_of-self g c =
    let P : Queue g.row.T.Denot → Type 0 = λ q. IsSome (restored q c.args.class c.args.item) in
    put_back_kept g.row.CAP (at_class (with_class c.self.inside.queues c.args.class c.push_front.new.self)) (at_class c.self.inside.queues) c.self.inside.next c.self.inside.gap c.in-Some.gap c.args.class c.args.item c.self.invariant c.in-Some.is (subst P (sym c.self.view_is) c.requires) (fronts g c)

pub returns-clause-waiting : goal.returns-clause-waiting
returns-clause-waiting g c =
    let P : Queue g.row.T.Denot → Type 0 = λ q. IsSome (restored q c.args.class c.args.item) in
    ap (λ (q : Queue g.row.T.Denot). restored q c.args.class c.args.item) (sym c.self.view_is)
    ∙ put_back_waiting g.row.CAP (at_class (with_class c.self.inside.queues c.args.class c.push_front.new.self)) (at_class c.self.inside.queues) c.self.inside.next c.self.inside.gap c.in-Some.gap c.args.class c.args.item c.self.invariant c.in-Some.is (subst P (sym c.self.view_is) c.requires) (fronts g c)
