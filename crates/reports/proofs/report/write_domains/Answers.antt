use Rattle.std.proofs.Common.{[], ◌++◌, refl}
use Rattle.reports.proofs.Parts.{parts_next, parts_whole}
use Rattle.reports.proofs.Writing.{joined, nothing}
use Rattle.reports.proofs.report.write_domains.Goals as goal

pub loop-domain-init : goal.loop-domain-init
loop-domain-init g c = ([], refl, nothing _)

pub loop-domain-preserved : goal.loop-domain-preserved
loop-domain-preserved g c =
    let before = c.loop-domain.invariant in
    let now = c.in_ok-write_domain.ensures in (
      before.0 ++ now.0,
      parts_next c.args.domains.now c.loop-domain.domain-index c.domain-item.result before.0 now.0 c.loop-domain-test.true c.domain-item.is before.1 now.1,
      joined _ _ _ before.0 now.0 before.2 now.2,
    )

pub returns : goal.returns
returns g c =
    let before = c.loop-domain.invariant in
    (before.0, parts_whole c.args.domains.now c.loop-domain.domain-index before.0 c.loop-domain-test.false before.1, before.2)
