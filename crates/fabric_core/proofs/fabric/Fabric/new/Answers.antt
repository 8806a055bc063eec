use Rattle.fabric_core.proofs.bounded.AtStart.{bounded_new}
use Rattle.fabric_core.proofs.runs.FirstRuns.{untold_new}
use Rattle.fabric_core.proofs.order.OrderAtStart.{order_new}
use Rattle.fabric_core.proofs.soundness.Orderly.{guarded_new}
use Rattle.fabric_core.proofs.invariant.Starting.{kept_new}
use Rattle.fabric_core.proofs.progress.NewFabrics.{consumed_new, ending_new, unblocked_new}
use Rattle.fabric_core.proofs.fabric.Fabric.new.Goals as goal

pub invariant_of-result : goal.invariant_of-result
invariant_of-result c = record {
  kept =
      kept_new c.args.layout.now c.in_ok-new.field-0 c.in_ok-new-2.field-0 c.new-3.result.violations c.new-4.result.items c.in_ok-new.ensures.start c.in_ok-new.ensures.kept c.in_ok-new-2.ensures.start c.in_ok-new-2.ensures.settled c.new-3.ensures
      c.new-4.ensures.items;
  bounded = bounded_new c.args.layout.now c.in_ok-new.field-0 c.ports.ensures.laws c.in_ok-new.ensures.start;
  guarded =
      guarded_new c.args.layout.now c.in_ok-new.field-0 c.in_ok-new-2.field-0 c.new-3.result.violations c.new-4.result.items c.ports.ensures.laws c.in_ok-new.ensures.start c.in_ok-new-2.ensures.start c.new-3.ensures c.new-4.ensures.items;
  ordered = λ controls. order_new c.args.layout.now c.in_ok-new.field-0 c.in_ok-new-2.field-0 c.new-3.result.violations c.new-4.result.items c.in_ok-new.ensures.start c.in_ok-new-2.ensures.start c.new-3.ensures c.new-4.ensures.items _;
}

pub returns-clause-isolated : goal.returns-clause-isolated
returns-clause-isolated c =
    untold_new c.args.layout.now c.in_ok-new.field-0 c.in_ok-new-2.field-0 c.new-3.result.violations c.new-4.result.items c.ports.ensures.laws c.other_domains_can_be_taken_out.ensures c.in_ok-new.ensures.start c.in_ok-new-2.ensures.start c.new-3.ensures
    c.new-4.ensures.items

pub returns-clause-unblocked : goal.returns-clause-unblocked
returns-clause-unblocked c =
    unblocked_new c.args.layout.now c.in_ok-new.field-0 c.in_ok-new-2.field-0 c.new-3.result.violations c.new-4.result.items c.ports.ensures.laws c.still_is_empty.ensures c.in_ok-new.ensures.start c.in_ok-new-2.ensures.start c.new-3.ensures c.new-4.ensures.items

pub returns-clause-consumed : goal.returns-clause-consumed
returns-clause-consumed c =
    consumed_new c.args.layout.now c.in_ok-new.field-0 c.in_ok-new-2.field-0 c.new-3.result.violations c.new-4.result.items c.ports.ensures.laws c.still_is_consumed.ensures c.in_ok-new.ensures.start c.in_ok-new-2.ensures.start c.new-3.ensures c.new-4.ensures.items

pub returns-clause-ends : goal.returns-clause-ends
returns-clause-ends c =
    ending_new c.args.layout.now c.in_ok-new.field-0 c.in_ok-new-2.field-0 c.new-3.result.violations c.new-4.result.items c.ports.ensures.laws c.moves_end.ensures c.in_ok-new.ensures.start c.in_ok-new-2.ensures.start c.new-3.ensures c.new-4.ensures.items
