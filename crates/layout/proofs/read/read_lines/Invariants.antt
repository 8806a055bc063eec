use Rattle.std.proofs.Common.{◌≡◌, ◌<◌, length}
use Rattle.text.specs.Text.{pieces}
use Rattle.platform.specs.Platform.{no_lines}
use Rattle.layout.specs.Reading.{read_from}
use Rattle.layout.proofs.read.read_lines.Given as goal

abbrev pub invariant-loop-parts : goal.invariant-loop-parts
invariant-loop-parts l = record {
  left : read_from (no_lines l.fn.version) 2 (pieces l.fn.text) ≡ read_from l.layout l.line (pieces l.rest);
  small : l.line < 4294967296;
}

abbrev pub decreases-loop-parts : goal.decreases-loop-parts
decreases-loop-parts l = length l.rest
