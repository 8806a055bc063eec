use Rattle.std.proofs.Common.{sym, inr}
use Rattle.layout.proofs.Pieces.{reading-header, reading-other, reading-no_line}
use Rattle.layout.proofs.layout.Layout.read.Goals as goal
use Rattle.layout.proofs.layout.Layout.read.Goals.{in-Some+in_default, in-None}

pub returns-in-Some-version_of-clause-exact : goal.returns-in-Some-version_of-clause-exact
returns-in-Some-version_of-clause-exact c =
    rw (reading-header c.in-Some-version_of.version c.in-Some.first.before.now c.in-Some.first.after.now c.args.text.now (rw c.as_bytes.ensures.value at c.in-Some.ensures.parts) (sym c.in-Some-version_of.ensures)) c.read_lines.ensures.exact

pub returns-clause-exact : goal.returns-clause-exact
returns-clause-exact c = inr (elim c.match-cut.branch [
  | in-Some+in_default w ↦ reading-other w.in-Some.first.before.now w.in-Some.first.after.now c.args.text.now (rw c.as_bytes.ensures.value at w.in-Some.ensures.parts) (sym w.in_default.ensures)
  | in-None w ↦ reading-no_line c.args.text.now (rw c.as_bytes.ensures.value at w.in-None.ensures.parts)
])
