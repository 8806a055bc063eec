use Rattle.std.proofs.Common.{◌∙◌, List, None, ap, length, replicate}
use Rattle.port.specs.Turns.{PortView}
use Rattle.interconnect.proofs.Keeping.{kept_at_start}
use Rattle.interconnect.proofs.Waiting.{none_known}
use Rattle.interconnect.proofs.interconnect.Interconnect.new.Goals as goal

pub invariant_of-result : goal.invariant_of-result
invariant_of-result c = record {
  kept = rw (c.in_ok-new.ensures, c.in_ok-new-2.ensures, c.in_ok-nodes_of.ensures, c.in_ok-ports.ensures) (kept_at_start c.args.layout.now c.ports.ensures.laws);
  courses = none_known c.in_ok-new-2.field-0 c.in_ok-ports.ports.items c.in_ok-none_known.field-0.items (c.in_ok-none_known.ensures ∙ ap (λ (ps : List PortView). replicate (length ps) None) c.deref.ensures.value);
}

pub returns-clause-kept : goal.returns-clause-kept
returns-clause-kept c = rw (c.in_ok-new.ensures, c.in_ok-new-2.ensures, c.in_ok-nodes_of.ensures, c.in_ok-ports.ensures) (kept_at_start c.args.layout.now c.ports.ensures.laws)
