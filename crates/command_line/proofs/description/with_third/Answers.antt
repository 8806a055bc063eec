use Rattle.command_line.specs.CommandLine.{files_command}
use Rattle.command_line.proofs.description.with_third.Goals as goal

pub returns : goal.returns
returns c = c.with_word.ensures (files_command c.args.name.now c.args.second.now) c.in_ok-with_files.ensures
