use Rattle.std.proofs.Common.{◌≤◌, ◌+◌, sym, ◌∙◌, length, arith}
use Rattle.host_memory.proofs.Parts.{unwritten}
use Rattle.host_memory.proofs.memory.HostMemory.write.Goals as goal

pub returns-else-has_part : goal.returns-else-has_part
returns-else-has_part c =
    let start = c.args.offset in
    let end = start + length c.args.bytes.now in
    let low : start ≤ end = omega arith in
    c.has_part.ensures.kept ∙ sym (unwritten c.args.self.now c.args.frame start end c.args.bytes.now low c.requires (sym c.has_part.ensures.found ∙ c.if-has_part.false))
