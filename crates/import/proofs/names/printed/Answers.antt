use Rattle.std.proofs.lemmas.Str.{IsUtf8-from_ascii}
use Rattle.import.proofs.Printed.{is_ascii}
use Rattle.import.proofs.names.printed.Goals as goal

pub unreachable-requires : goal.unreachable-requires
unreachable-requires c = c.in-Err.ensures.cases.0 (IsUtf8-from_ascii c.args.words.now (is_ascii c.args.words.now c.requires))
