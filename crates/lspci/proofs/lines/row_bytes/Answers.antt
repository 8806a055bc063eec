use Rattle.std.proofs.Common.{◌≡◌, ◌*◌, None, arith, sym}
use Rattle.lspci.specs.Lines.{byte_at}
use Rattle.lspci.proofs.Rows.{row_none, row_some}
use Rattle.lspci.proofs.lines.row_bytes.Goals as goal

pub returns-in_default : goal.returns-in_default
returns-in_default c =
    let none : None ≡ byte_at c.args.text.now (3 * c.loop-place.place) = c.in_default.ensures in
    sym (row_none c.args.text.now c.loop-place.place (omega arith) (omega arith) none)

pub returns : goal.returns
returns c = sym (row_some c.args.text.now c.loop-place.bytes (omega arith) c.loop-place.invariant.whole (λ k h. c.loop-place.invariant.read k (omega arith)))
