use Rattle.std.proofs.Common.{rules, ◌<◌, ◌^◌, arith}
use Rattle.text_writers.proofs.drafts.Hex.{hex_eight}
use Rattle.text_writers.proofs.draft_lines.Hex8Display.fmt.Goals as goal

pub returns-clause-writes : goal.returns-clause-writes
returns-clause-writes g c =
    let n = c.args.self.now.0 in
    let small : c.args.self.now.0 < 2 ^ 32 = omega arith in
    rw (← hex_eight c.args.self.now.0 small) (search rules)
