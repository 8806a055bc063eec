use Rattle.text_writers.proofs.scripts.ScriptsInRange.{scripts_good}
use Rattle.text_writers.proofs.script_laws.scripts_are_in_range.Goals as goal

pub returns : goal.returns
returns c = scripts_good
