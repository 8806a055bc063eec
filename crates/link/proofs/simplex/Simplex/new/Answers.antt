use Rattle.std.proofs.Common.{ap, sym, ◌∙◌}
use Rattle.link.specs.Ends.{EgressView, IngressView}
use Rattle.link.proofs.Stepping.{started}
use Rattle.link.proofs.simplex.Simplex.new.Goals as goal

pub invariant_of-result : goal.invariant_of-result
invariant_of-result c = record {
  counted = started c.args.limits c.in_ok-new.field-0 c.in_ok-new-2.field-0 c.in_ok-new-3.field-0 c.requires c.in_ok-new.ensures c.in_ok-new-2.ensures c.in_ok-new-3.ensures;
  advertised = λ advertised. ap (λ (i : IngressView). i.receiver.credits_allocated) c.in_ok-new-3.ensures ∙ sym (ap (λ (e : EgressView). e.sender.credit_limit) c.in_ok-new.ensures);
}
