use Rattle.text_writers.proofs.scripts.CommandsInRange.{command_range}
use Rattle.text_writers.proofs.script_laws.commands_are_in_range.Goals as goal

pub returns : goal.returns
returns c = command_range
