use Rattle.text_writers.proofs.lines.LinesInRange.{layout_line_range}
use Rattle.text_writers.proofs.line_laws.layout_lines_are_in_range.Goals as goal

pub returns : goal.returns
returns c = layout_line_range
