use Rattle.text_writers.proofs.scripts.CommandsRead.{command_read}
use Rattle.text_writers.proofs.script_laws.commands_are_read_back.Goals as goal

pub returns : goal.returns
returns c = command_read
