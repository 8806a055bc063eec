use Rattle.text_writers.proofs.scripts.ScriptsInRange.{own_text}
use Rattle.text_writers.proofs.script_laws.each_script_has_a_text.Goals as goal

pub returns : goal.returns
returns c = own_text
