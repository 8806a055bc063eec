use Rattle.clap.specs.Words.{new_app}
use Rattle.std.specs.Prelude.{codes}
use Rattle.command_line.proofs.description.draw_definition.Goals as goal

pub returns : goal.returns
returns c = c.with_word.ensures (new_app (codes "draw")) c.subcommand-plain.ensures
