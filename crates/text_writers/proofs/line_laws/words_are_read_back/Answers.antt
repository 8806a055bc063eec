use Rattle.std.specs.Prelude.{◌++◌}
use Rattle.text.proofs.WordLemmas.{word_cut}
use Rattle.text_writers.specs.Words.{more_words}
use Rattle.text_writers.proofs.line_laws.words_are_read_back.Goals as goal

pub returns : goal.returns
returns c = λ word next more is_word. word_cut word (next ++ more_words more) is_word
