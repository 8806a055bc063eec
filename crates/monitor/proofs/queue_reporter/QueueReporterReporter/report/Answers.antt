use Rattle.std.proofs.Common.{rules, ◌≡◌, ℕ, ◌+◌, List, length, sym, ap, ◌∙◌, subst, length-append}
use Rattle.monitor.specs.declared.queue.Report.{Report}
use Rattle.monitor.specs.declared.queue.View.{View}
use Rattle.monitor.specs.Numbering.{reports_of, violations_of}
use Rattle.monitor.specs.Order.{port_view}
use Rattle.monitor.proofs.Numbers.{numbered_more}
use Rattle.monitor.proofs.Rules.{reports}
use Rattle.monitor.proofs.queue_reporter.QueueReporterReporter.report.Goals as goal

pub try_push_as-requires-clause-rule : goal.try_push_as-requires-clause-rule
try_push_as-requires-clause-rule c = reports _ _ _ _ c.self.invariant.is_port

pub invariant_of-self-in-Ok : goal.invariant_of-self-in-Ok
invariant_of-self-in-Ok c =
    let is = c.in-Ok.ensures.rule in
    let more = ap (λ (v : View). v.reported) is in
    let seat = ap (λ (v : View). v.seat) c.self.invariant.is_port in
    record {
      of_queue = search rules;
      is_port = is ∙ (λ i. port_view (seat i) (sym more i));
      numbered = subst (λ (l : List Report). l ≡ reports_of c.self.inside.seat (violations_of l)) (sym more)
          (numbered_more _ _ _ _ c.self.invariant.numbered c.self.invariant.next);
      next = ap length more ∙ (length-append _ _ ∙ ap (λ (n : ℕ). n + 1) c.self.invariant.next);
    }
