use Rattle.std.proofs.Common.{◌≡◌, ◌∙◌, List, None, Some, ap, subst, sym}
use Rattle.std.proofs.lemmas.Option.{same_Some}
use Rattle.platform.specs.Share.{Share}
use Rattle.domain.specs.declared.entry.Entry.{Entry}
use Rattle.domain.specs.Domains.{DomainView}
use Rattle.domain.specs.Machine.{replay}
use Rattle.commands.proofs.run.replayed.Goals as goal

pub returns-in-Ok-clause-ok : goal.returns-in-Ok-clause-ok
returns-in-Ok-clause-ok c =
    let refused = c.in_ok-fabric.ensures.ok in
    record {
      ran = c.in-Some.domain.now;
      run = record {
        world = c.in_ok-fabric.fabric;
        refused = refused.0;
        driven = refused.1;
        isolated = c.in_ok-fabric.ensures.isolated;
        there = sym (rw c.domain-number.ensures at c.in-Some.ensures);
      };
      share_is = c.in-Ok.ensures.journal.1;
      journal = c.in-Ok.ensures.journal.0 ∙ c.journal.ensures.value;
      replays = rw c.journal.ensures.value at c.in-Ok.ensures.state;
    }

pub unreachable-requires : goal.unreachable-requires
unreachable-requires c =
    let has = c.in_ok-fabric.ensures.owners c.args.start.now c.requires in
    let clash : None ≡ Some has.domain = rw c.domain-number.ensures at c.in_default.ensures ∙ has.there in
    cc

-- the domain has the share that its journal is replayed from
pub unreachable-requires-in-Err-Illegal : goal.unreachable-requires-in-Err-Illegal
unreachable-requires-in-Err-Illegal c =
    let domain = c.in-Some.domain.now in
    let has = c.in_ok-fabric.ensures.owners c.args.start.now c.requires in
    let same : has.domain ≡ domain = same_Some _ _ (sym has.there ∙ sym (rw c.domain-number.ensures at c.in-Some.ensures)) in
    let share : domain.share ≡ c.args.start.now = ap (λ (d : DomainView). d.share) (sym same) ∙ has.share_is in
    let replays = subst (λ (s : Share). replay s c.journal.result.now ≡ Some domain.state) share (subst (λ (es : List Entry). replay domain.share es ≡ Some domain.state) (sym c.journal.ensures.value) c.journal.ensures.replays) in
    let fault = c.in-Err-Illegal.ensures.legal domain.state replays in
    cc
