use Rattle.std.proofs.lemmas.Str.Ascii.{trim_ascii_end_is}
use Rattle.lspci.specs.Lines.{trimmed}
use Rattle.lspci.proofs.lines.trimmed.Goals as goal

pub returns : goal.returns
unfolding trimmed
returns c = trim_ascii_end_is c.args.line.now c.trim_ascii_end.result.now c.trim_ascii_end.ensures.value
