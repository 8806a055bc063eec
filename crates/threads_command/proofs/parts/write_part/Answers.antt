use Rattle.std.proofs.Common.{◌++◌, refl}
use Rattle.reports.specs.Report.{counts_line}
use Rattle.reports.proofs.Writing.{joined}
use Rattle.threads_command.specs.Counted.{totals_line}
use Rattle.threads_command.proofs.parts.write_part.Goals as goal

pub returns : goal.returns
returns g c =
    let holding = c.in_ok-write_holding.ensures in (
      counts_line c.args.domain.now ++ totals_line c.args.domain.now.share.domain c.args.totals.now ++ holding.0,
      record { holding = holding.0; holds = holding.1; lines = refl },
      joined _ _ _ _ _ (joined _ _ _ _ _ c.in_ok-write_counts.ensures (rw (c.domain.ensures, c.start.ensures) at c.in_ok-write_totals.ensures)) holding.2,
    )
