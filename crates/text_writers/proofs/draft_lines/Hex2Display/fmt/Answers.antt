use Rattle.std.proofs.Common.{rules, ◌≡◌, ◌<◌, arith}
use Rattle.text_writers.specs.Words.{hex_text}
use Rattle.text_writers.proofs.drafts.Hex.{byte_of, hex_two}
use Rattle.text_writers.proofs.draft_lines.Hex2Display.fmt.Goals as goal

pub returns-clause-writes : goal.returns-clause-writes
returns-clause-writes g c =
    let small : c.args.self.now.0 < 256 = omega arith in
    let e : byte_of c.args.self.now.0 ≡ hex_text 2 c.args.self.now.0 = hex_two c.args.self.now.0 small in
    rw (← e) (search rules)
