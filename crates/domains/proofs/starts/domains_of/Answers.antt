use Rattle.std.proofs.Common.{Option, ◌++◌, ◌∙◌, ap, append-nil, sym}
use Rattle.std.specs.Option.{option_to_list}
use Rattle.domain.specs.Domains.{DomainView}
use Rattle.domains.proofs.DomainsStarting.{starting_domains_next, starting_domains_none}
use Rattle.domains.proofs.starts.domains_of.Goals as goal
use Rattle.domains.proofs.starts.domains_of.Goals.{in-Some-2+in_ok-push-in-Some-2, in-None}

pub loop-number-init : goal.loop-number-init
loop-number-init c = c.new-domains.ensures.items ∙ sym (starting_domains_none c.args.layout.now)

pub loop-number-preserved : goal.loop-number-preserved
loop-number-preserved c =
    let before = c.loop-number.domains.items in
    elim c.match-branch-4.branch [
      | in-Some-2+in_ok-push-in-Some-2 w ↦
          rw w.domains-is (starting_domains_next c.args.layout.now c.loop-number.number c.in-Some.number before _ c.in_ok-domain.field-0 c.loop-number.auto.number c.in-Some.ensures.1 c.loop-number.invariant c.in_ok-domain.ensures
          (w.in_ok-push-in-Some-2.ensures.items ∙ ap (λ (o : Option DomainView). before ++ option_to_list o) (sym w.in-Some-2.is)))
      | in-None w ↦
          rw w.domains-is (starting_domains_next c.args.layout.now c.loop-number.number c.in-Some.number before _ c.in_ok-domain.field-0 c.loop-number.auto.number c.in-Some.ensures.1 c.loop-number.invariant c.in_ok-domain.ensures
          (sym (append-nil before) ∙ ap (λ (o : Option DomainView). before ++ option_to_list o) (sym w.in-None.is)))
    ]
