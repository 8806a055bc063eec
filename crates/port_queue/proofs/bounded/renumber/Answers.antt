use Rattle.std.proofs.Common.{◌≡◌, ◌∷◌, ◌++◌, [], List, None, length, sym, ap, ◌∙◌, subst, arith, rules}
use Rattle.port_queue.specs.Arrivals.{Entry, waiting_of, AreClassQueues}
use Rattle.port_queue.specs.PerClass.{Class, PerClass, at_class}
use Rattle.port_queue.specs.Renumbering.{firsts_of, others_of}
use Rattle.port_queue.proofs.Renumbering.{moves_bound}
use Rattle.port_queue.proofs.Halves.{halves_start, halves_room, halves_more, halves_fewer, halves_kept, halves_waiting, pushed-within}
use Rattle.port_queue.proofs.bounded.renumber.Goals as goal

pub loop-class-init : goal.loop-class-init
loop-class-init g c = (halves_start g.row.CAP c.args.next c.args.queues.now (record { posted = c.len.result; non_posted = c.len-2.result; completion = c.len-3.result }) all c.requires, λ d. (let is = all d in omega arith))
  where
    all : (d : Class) → at_class (record { posted = c.len.result; non_posted = c.len-2.result; completion = c.len-3.result }) d ≡ length (at_class c.args.queues.now d)
    all Class.Posted = c.len.ensures
    all Class.NonPosted = c.len-2.ensures
    all Class.Completion = c.len-3.ensures

pub push_back-requires : goal.push_back-requires
push_back-requires g c =
    let same = ap length c.get_mut.ensures.value in
    let room = halves_room g.row.CAP c.args.next c.loop-class.number c.loop-class.queues c.take_oldest.new.queues c.loop-class.left c.take_oldest.new.left (waiting_of (at_class c.args.queues.now)) c.in-Some.class c.in-Some.item c.loop-class.invariant.0 c.in-Some.ensures.oldest c.in-Some.ensures.others in
    (search rules, omega arith)

pub overflow_add-number : goal.overflow_add-number
overflow_add-number g c =
    let bound = moves_bound g.row.CAP c.args.next c.loop-class.number (others_of c.loop-class.queues c.loop-class.left) (firsts_of c.loop-class.queues c.loop-class.left) (waiting_of (at_class c.args.queues.now)) c.loop-class.invariant.0 in
    omega arith

last : (g : _) (c : goal.After-queues-1 g) → c.push_back.new.self ≡ at_class c.take_oldest.new.queues c.in-Some.class ++ record { number = c.loop-class.number; item = c.in-Some.item } ∷ []
last g c =
    let entry : Entry g.row.T.Denot = record { number = c.loop-class.number; item = c.in-Some.item } in
    c.push_back.ensures ∙ ap (λ (q : List (Entry g.row.T.Denot)). q ++ entry ∷ []) c.get_mut.ensures.value

pub loop-class-preserved : goal.loop-class-preserved
loop-class-preserved g c = (
  halves_more g.row.CAP c.args.next c.loop-class.number c.loop-class.queues c.take_oldest.new.queues c.loop-class.left c.take_oldest.new.left (waiting_of (at_class c.args.queues.now)) c.in-Some.class c.in-Some.item c.push_back.new.self
      c.loop-class.invariant.0 c.in-Some.ensures.oldest c.in-Some.ensures.kept c.in-Some.ensures.others c.in-Some.ensures.within (last g c),
  pushed-within c.take_oldest.new.queues c.take_oldest.new.left c.in-Some.class (record { number = c.loop-class.number; item = c.in-Some.item }) c.push_back.new.self (last g c) c.in-Some.ensures.within,
)

pub loop-class-smaller : goal.loop-class-smaller
loop-class-smaller g c = halves_fewer c.loop-class.queues c.take_oldest.new.queues c.loop-class.left c.take_oldest.new.left c.in-Some.class c.in-Some.item (record { number = c.loop-class.number; item = c.in-Some.item }) c.push_back.new.self c.in-Some.ensures.oldest c.in-Some.ensures.within (last g c)

pub returns-clause-room : goal.returns-clause-room
returns-clause-room g c = moves_bound g.row.CAP c.args.next c.loop-class.number (others_of c.loop-class.queues c.loop-class.left) (firsts_of c.loop-class.queues c.loop-class.left) (waiting_of (at_class c.args.queues.now)) c.loop-class.invariant.0

pub returns-clause-kept : goal.returns-clause-kept
returns-clause-kept g c =
    let P : PerClass (List (Entry g.row.T.Denot)) → Type 0 = λ q. AreClassQueues g.row.CAP (at_class q) c.loop-class.number None in
    subst P (sym c.in_default.ensures.oldest.1) (halves_kept g.row.CAP c.args.next c.loop-class.number c.loop-class.queues c.loop-class.left (waiting_of (at_class c.args.queues.now)) c.loop-class.invariant.0 c.in_default.ensures.oldest.0)

pub returns-clause-waiting : goal.returns-clause-waiting
returns-clause-waiting g c =
    ap (λ (q : PerClass (List (Entry g.row.T.Denot))). waiting_of (at_class q)) c.in_default.ensures.oldest.1
    ∙ halves_waiting g.row.CAP c.args.next c.loop-class.number c.loop-class.queues c.loop-class.left (waiting_of (at_class c.args.queues.now)) c.loop-class.invariant.0 c.in_default.ensures.oldest.0
