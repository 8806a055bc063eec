use Rattle.std.proofs.Common.{◌≡◌}
use Rattle.std.specs.Vec.Iter.{into_iter_items}
use Rattle.threads_command.specs.Begins.{AllBegin, BegunView, begun_by}
use Rattle.threads_command.proofs.begins.begin_all.Given as goal

-- with those of the lines that are left, the begins so far are those of all lines; the fabric is the same but for its injectors
abbrev pub invariant-loop-line : goal.invariant-loop-line
invariant-loop-line g l =
    ((new : BegunView) → AllBegin (into_iter_items l.line-iterator) (begun_by l.running.origins l.begun) new → AllBegin l.fn.lines.items (begun_by l.fn.running.origins l.fn.begun) new)
    × (l.running ≡ record l.fn.running { origins = l.running.origins })
