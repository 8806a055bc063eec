use Rattle.std.proofs.Common.{◌≡◌, ◌+◌, ◌≤◌, length}
use Rattle.text.specs.Text.{pieces}
use Rattle.text.specs.Reading.{adds, before, read_from, reading}
use Rattle.text.proofs.lines.read_lines.Given as goal

abbrev pub invariant-loop-parts : goal.invariant-loop-parts
invariant-loop-parts g l =
    let said = g.R.LineReader.said l.reader in
    record {
      left : reading l.last said l.fn.text ≡ before l.items.items (read_from (adds l.last said) l.line (pieces l.rest));
      small : l.line ≤ l.last + 1;
    }

abbrev pub decreases-loop-parts : goal.decreases-loop-parts
decreases-loop-parts g l = length l.rest
