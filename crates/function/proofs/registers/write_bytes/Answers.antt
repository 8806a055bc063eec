use Rattle.std.proofs.Common.{◌+◌, ◌-◌, ◌∙◌, length, sym, arith}
use Rattle.function.proofs.Kept.{kept_is}
use Rattle.function.proofs.registers.write_bytes.Goals as goal

-- where each byte keeps what is written they are copied at once
pub returns-then-are_kept : goal.returns-then-are_kept
returns-then-are_kept c =
    let count = c.args.first + length c.args.bytes.now - c.args.first in
    kept_is c.args.page.now c.copy_from_slice.new.self c.args.bytes.now c.args.first count (sym c.are_kept.ensures ∙ c.if-are_kept.true) c.requires.size c.requires.inside (omega arith) c.copy_from_slice.ensures.after
