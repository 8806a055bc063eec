use Rattle.thread_plan.proofs.Within.{made_within}
use Rattle.thread_plan.proofs.plan.Plan.new.Goals as goal

pub invariant_of-result : goal.invariant_of-result
invariant_of-result c =
    let workers = c.in_ok-workers.workers.items in
    record {
      links = made_within workers c.deref-2.result.now _ c.deref-3.result.now c.in_ok-wires_of.field-0.items c.deref-2.ensures.value c.in_ok-wires_of.ensures;
      credits = made_within workers c.deref-4.result.now _ c.deref-5.result.now c.in_ok-wires_of-2.field-0.items c.deref-4.ensures.value c.in_ok-wires_of-2.ensures;
      pairs = made_within workers c.deref-6.result.now _ c.deref-7.result.now c.in_ok-wires_of-3.field-0.items c.deref-6.ensures.value c.in_ok-wires_of-3.ensures;
    }
