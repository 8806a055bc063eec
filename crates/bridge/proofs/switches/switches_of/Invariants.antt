use Rattle.std.proofs.Common.{◌≡◌, take}
use Rattle.bridge.specs.Groups.{groups_of}
use Rattle.bridge.proofs.switches.switches_of.Given as goal

abbrev pub invariant-loop-line : goal.invariant-loop-line
invariant-loop-line l = l.switches.items ≡ groups_of (take l.line-index l.lines) l.ports
