use Rattle.std.proofs.Common.{◌∙◌}
use Rattle.clap.specs.Words.{found_of}
use Rattle.command_line.proofs.CommandWords.{first_word}
use Rattle.command_line.proofs.request.word_in.Goals as goal

pub returns : goal.returns
returns c = c.get_str.ensures ∙ first_word (found_of c.args.words.now) c.args.name.now
