use Rattle.std.proofs.Common.{◌≡◌, ◌+◌, ◌++◌, ◌∷◌, [], Bool, true, take, sym, ap, ◌∙◌, subst}
use Rattle.std.specs.Prelude.{◌&&◌, All}
use Rattle.std.proofs.lemmas.List.{take_more}
use Rattle.domain.specs.Domains.{DomainView}
use Rattle.thread_totals.proofs.Balanced.{both_hold, mapped_more}
use Rattle.thread_totals.specs.Balance.{IsBalanced}
use Rattle.thread_totals.specs.Counts.{totals_of}
use Rattle.thread_totals.specs.Named.{AreNoted}
use Rattle.thread_totals.specs.Standing.{frames_left}
use Rattle.thread_totals.proofs.count.count_all.Goals as goal
use Rattle.thread_totals.proofs.count.count_all.Goals.{then-is_balanced, else-is_balanced}

pub loop-domain-preserved : goal.loop-domain-preserved
loop-domain-preserved c =
    let frames = frames_left c.args.remains.now c.args.links.now c.args.pairs.now in
    let remains = c.args.remains.now in
    let domains = c.args.domains.now in
    let i = c.loop-domain.domain-index in
    let x = c.domain-item.result in
    let more : take (i + 1) domains ≡ take i domains ++ x ∷ [] =
    take_more domains i x c.loop-domain-test.true ∙ ap (λ (y : DomainView). take i domains ++ y ∷ []) (sym c.domain-item.is) in
    let named = subst (AreNoted [] frames) (sym c.deref.ensures.value) c.in_ok-names.ensures in
    let totals = c.in_ok-count.ensures.totals frames named in
    let one = c.in_ok-count.ensures.balanced frames named in
    let both = both_hold domains i x more (IsBalanced frames remains) c.loop-domain.is_balanced c.in_ok-count.count.is_balanced c.loop-domain.invariant.1 one in
    let holds : c.if-is_balanced.is_balanced ≡ (c.loop-domain.is_balanced && c.in_ok-count.count.is_balanced) =
    elim c.if-is_balanced.branch [
      | then-is_balanced w ↦ w.is_balanced-is ∙ ap (λ (b : Bool). b && c.in_ok-count.count.is_balanced) (sym w.if-is_balanced.true)
      | else-is_balanced w ↦ w.is_balanced-is ∙ w.if-is_balanced.false ∙ ap (λ (b : Bool). b && c.in_ok-count.count.is_balanced) (sym w.if-is_balanced.false)
    ] in (
      mapped_more domains i x more (totals_of frames remains) c.loop-domain.totals.items c.push.new.self.items c.in_ok-count.count.totals c.loop-domain.invariant.0 totals c.in_ok-push.ensures.items,
      subst (λ (b : Bool). (b ≡ true → All (IsBalanced frames remains) (take (i + 1) domains)) × (All (IsBalanced frames remains) (take (i + 1) domains) → b ≡ true)) (sym holds) both,
    )
