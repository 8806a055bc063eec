use Rattle.std.proofs.Common.{◌≡◌, ◌∷◌, ◌-◌, suc, sym, ap, ◌∙◌, arith, refl, slice_get, take, None}
use Rattle.port_queue.specs.Arrivals.{number_or_last_of}
use Rattle.port_queue.specs.PerClass.{at_class, with_class}
use Rattle.port_queue.specs.Renumbering.{firsts_of}
use Rattle.port_queue.proofs.Taking.{Fronts}
use Rattle.port_queue.proofs.Keeping.{kept_taken, kept_filled}
use Rattle.port_queue.proofs.Renumbering.{least_same, oldest_first, oldest_none}
use Rattle.port_queue.proofs.Halves.{fronts_left, within-less}
use Rattle.port_queue.proofs.bounded.take_oldest.Goals as goal

pub returns-then-count-eq0-clause-oldest : goal.returns-then-count-eq0-clause-oldest
returns-then-count-eq0-clause-oldest g c =
    let none = sym c.get-count.ensures ∙ c.if-count-eq0.true in
    let first : slice_get (firsts_of c.args.queues.now c.args.left.now c.first_of-class.result) 0 ≡ None = ap (λ j. slice_get (take j (at_class c.args.queues.now c.first_of-class.result)) 0) none in (
      oldest_none (firsts_of c.args.queues.now c.args.left.now) c.args.next c.first_of-class.result c.requires.left.sound (omega arith) first (least_same (λ d. number_or_last_of (slice_get (firsts_of c.args.queues.now c.args.left.now d) 0)) c.first_number-posted.result c.first_number-non_posted.result c.first_number-completion.result c.first_of-class.result c.first_number-posted.ensures c.first_number-non_posted.ensures c.first_number-completion.ensures c.first_of-class.ensures),
      refl,
      refl,
    )

first : (g : _) (c : goal.After-left-1 g) → at_class c.args.queues.now c.first_of-class.result ≡ c.in-Some.field-0 ∷ c.pop_front.new.self
first g c = sym c.get_mut.ensures.value ∙ c.in-Some.ensures.items

count : (g : _) (c : goal.After-left-1 g) → at_class c.args.left.now c.first_of-class.result ≡ suc (c.get-count.result.now - 1)
count g c = (let is = c.get-count.ensures in let some = c.if-count-eq0.false in omega arith)

fronts : (g : _) (c : goal.After-left-1 g) → Fronts (firsts_of c.args.queues.now c.args.left.now) (firsts_of (with_class c.args.queues.now c.first_of-class.result c.pop_front.new.self) (with_class c.args.left.now c.first_of-class.result (c.get-count.result.now - 1))) c.first_of-class.result c.in-Some.field-0
fronts g c = fronts_left c.args.queues.now c.args.left.now c.first_of-class.result c.in-Some.field-0 c.pop_front.new.self (c.get-count.result.now - 1) (first g c) (count g c)

pub returns-clause-kept : goal.returns-clause-kept
returns-clause-kept g c =
    kept_filled g.row.CAP (firsts_of (with_class c.args.queues.now c.first_of-class.result c.pop_front.new.self) (with_class c.args.left.now c.first_of-class.result (c.get-count.result.now - 1))) c.args.next _
    (kept_taken g.row.CAP (firsts_of c.args.queues.now c.args.left.now) (firsts_of (with_class c.args.queues.now c.first_of-class.result c.pop_front.new.self) (with_class c.args.left.now c.first_of-class.result (c.get-count.result.now - 1))) c.args.next None c.first_of-class.result c.in-Some.field-0 c.requires.left (fronts g c))

pub returns-clause-oldest : goal.returns-clause-oldest
returns-clause-oldest g c =
    oldest_first (firsts_of c.args.queues.now c.args.left.now) (firsts_of (with_class c.args.queues.now c.first_of-class.result c.pop_front.new.self) (with_class c.args.left.now c.first_of-class.result (c.get-count.result.now - 1))) c.args.next c.first_of-class.result c.in-Some.field-0 c.requires.left.sound (fronts g c) (least_same (λ d. number_or_last_of (slice_get (firsts_of c.args.queues.now c.args.left.now d) 0)) c.first_number-posted.result c.first_number-non_posted.result c.first_number-completion.result c.first_of-class.result c.first_number-posted.ensures c.first_number-non_posted.ensures c.first_number-completion.ensures c.first_of-class.ensures)

pub returns-clause-within : goal.returns-clause-within
returns-clause-within g c = within-less c.args.queues.now c.args.left.now c.first_of-class.result c.in-Some.field-0 c.pop_front.new.self (c.get-count.result.now - 1) (first g c) (count g c) c.requires.within
