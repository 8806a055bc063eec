use Rattle.tlp_view.proofs.BufferBytes.{made_view}
use Rattle.tlp_view.proofs.completion.CplBuf.new.Goals as goal

pub returns : goal.returns
returns c = made_view c.args.head c.args.length c.first_cells-cells.result.xs c.requires.small c.first_cells-cells.ensures.value
