use Rattle.std.proofs.Common.{◌≡◌, ◌<◌, length}
use Rattle.text.specs.Text.{pieces}
use Rattle.lspci.specs.Reading.{empty, read_from}
use Rattle.lspci.proofs.dump.Dump.read.Given as goal

abbrev pub invariant-loop-parts : goal.invariant-loop-parts
invariant-loop-parts l = record {
  left : read_from empty 1 (pieces l.fn.text) ≡ read_from l.dump l.line (pieces l.rest);
  small : l.line < 4294967296;
}

abbrev pub decreases-loop-parts : goal.decreases-loop-parts
decreases-loop-parts l = length l.rest
