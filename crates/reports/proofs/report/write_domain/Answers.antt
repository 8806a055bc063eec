use Rattle.std.proofs.Common.{◌++◌, refl}
use Rattle.reports.specs.Report.{counts_line}
use Rattle.reports.proofs.Writing.{joined}
use Rattle.reports.proofs.report.write_domain.Goals as goal

pub returns : goal.returns
returns g c =
    let holding = c.in_ok-write_holding.ensures in (
      counts_line c.args.domain.now ++ holding.0,
      record { holding = holding.0; holds = holding.1; lines = refl },
      joined _ _ _ _ _ c.in_ok-write_counts.ensures holding.2,
    )
