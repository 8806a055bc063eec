use Rattle.text_writers.proofs.scripts.ScriptsRead.{script_read}
use Rattle.text_writers.proofs.script_laws.scripts_are_read_back.Goals as goal

pub returns : goal.returns
returns c = script_read
