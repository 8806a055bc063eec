use Rattle.std.proofs.Common.{◌≡◌, length, sym, ap, ◌∙◌, arith}
use Rattle.std.proofs.lemmas.Grind.{common_steps}
use Rattle.port_queue.specs.PerClass.{at_class}
use Rattle.port_queue.specs.Queue.{Queue, count_of}
use Rattle.port_queue.proofs.Arriving.{count_of-waiting}
use Rattle.port_queue.proofs.Keeping.{kept_length}
use Rattle.port_queue.proofs.Heads.{full_tells}
use Rattle.port_queue.proofs.bounded.PortQueue.is_full.Goals as goal

counted : (g : _) (c : goal.After-len g) → c.len.result ≡ count_of c.args.class c.args.self.now.waiting
counted g c =
    c.len.ensures ∙ (ap length c.get.ensures ∙ (sym (count_of-waiting (at_class c.self.inside.queues) c.args.class)
    ∙ ap (λ (q : Queue g.row.T.Denot). count_of c.args.class q.waiting) c.self.view_is))

pub returns-clause-exact : goal.returns-clause-exact
returns-clause-exact g c = full_tells c.len.result (count_of c.args.class c.args.self.now.waiting) g.row.CAP (counted g c)

pub returns-clause-room : goal.returns-clause-room
returns-clause-room g c =
    let is = counted g c in
    let size = c.len.ensures ∙ ap length c.get.ensures in
    let within = kept_length g.row.CAP (at_class c.self.inside.queues) c.self.inside.next c.self.inside.gap c.self.invariant c.args.class in
    grind (arith, common_steps, is, size, within)
