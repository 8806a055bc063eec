use Rattle.reports.proofs.Writing.{joined}
use Rattle.findings_text.proofs.tree.write_function_line.Goals as goal

pub returns : goal.returns
returns g c =
    joined _ _ _ _ _ (joined _ _ _ _ _ c.in_ok-write_indent.ensures c.in_ok-write_with_id.ensures) (rw c.domain_of.ensures at c.in_ok-write_function_words.ensures)
