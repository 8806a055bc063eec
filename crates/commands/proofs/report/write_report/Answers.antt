use Rattle.std.proofs.Common.{◌++◌, ◌∙◌, List, ℕ, ap, refl}
use Rattle.reports.specs.Report.{violation_lines}
use Rattle.reports.proofs.Writing.{ready}
use Rattle.commands.proofs.report.write_report.Goals as goal

pub returns : goal.returns
returns g c =
    let parts = c.in_ok-write_domains.ensures in
    let violations : List ℕ = violation_lines c.args.fabric.now.violations in
    let first = rw c.violations.ensures at c.in_ok-write_violations.ensures in
    let made = c.deref.ensures.value ∙ parts.2 ∙ ap (λ (l : List ℕ). l ++ parts.0) (first ∙ ap (λ (l : List ℕ). l ++ violations) c.new-report.ensures.items) in (
      violations ++ parts.0,
      record { parts = parts.0; domains = rw c.domains.ensures at parts.1; lines = refl },
      ready _ _ (violations ++ parts.0) _ made c.in_ok-write_all.ensures.bytes,
    )
