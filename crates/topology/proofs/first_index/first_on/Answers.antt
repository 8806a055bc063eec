use Rattle.std.proofs.Common.{◌∙◌}
use Rattle.topology.proofs.Indexed.{first_on_is}
use Rattle.topology.proofs.first_index.first_on.Goals as goal

pub returns : goal.returns
returns c = c.unwrap_or.ensures ∙ rw (c.place_on.ensures) (first_on_is c.args.keys.now c.args.key)
