use Rattle.std.proofs.Common.{◌++◌, ◌∙◌, List, ℕ, ap, map, refl, rules}
use Rattle.reports.specs.Report.{violation_lines}
use Rattle.reports.proofs.Writing.{ready}
use Rattle.threads_command.specs.Refusals.{refused_lines}
use Rattle.threads_command.proofs.report.write_report.Goals as goal

pub returns : goal.returns
returns g c =
    let parts = c.in_ok-write_parts.ensures in
    let refusals : List ℕ = refused_lines c.args.refusals.now in
    let violations : List ℕ = violation_lines (map (λ report. report.violation) c.args.stopped.now.list.items) in
    let first = c.in_ok-write.ensures ∙ ap (λ (l : List ℕ). l ++ refusals) c.new-report.ensures.items in
    let second = (search rules) ∙ ap (λ (l : List ℕ). l ++ violations) first in
    let made = c.deref-3.ensures.value ∙ parts.2 ∙ ap (λ (l : List ℕ). l ++ parts.0) second in (
      refusals ++ violations ++ parts.0,
      record { parts = parts.0; domains = search rules; lines = refl },
      ready _ _ (refusals ++ violations ++ parts.0) _ made c.in_ok-write_all.ensures.bytes,
    )
