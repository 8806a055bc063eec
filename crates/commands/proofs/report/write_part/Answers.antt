use Rattle.std.proofs.Common.{◌++◌, ◌∙◌, List, ℕ, ap}
use Rattle.reports.proofs.Writing.{ready}
use Rattle.commands.proofs.report.write_part.Goals as goal

pub returns : goal.returns
returns g c =
    let part = c.in_ok-write_domain.ensures in
    let made = c.deref.ensures.value ∙ part.2 ∙ ap (λ (l : List ℕ). l ++ part.0) c.new-part.ensures.items in (
      part.0,
      part.1,
      ready _ _ part.0 _ made c.in_ok-write_all.ensures.bytes,
    )
