use Rattle.text_writers.proofs.lines.LinesRead.{layout_line_read}
use Rattle.text_writers.proofs.line_laws.layout_lines_are_read_back.Goals as goal

pub returns : goal.returns
returns c = layout_line_read
