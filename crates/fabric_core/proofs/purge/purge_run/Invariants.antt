use Rattle.std.proofs.Common.{take}
use Rattle.fabric_core.specs.World.{world_of}
use Rattle.fabric_core.proofs.runs.Leaving.{BothRun}
use Rattle.fabric_core.proofs.purge.purge_run.Given as goal

-- the events so far, and what is left of them
abbrev pub invariant-loop-event : goal.invariant-loop-event
invariant-loop-event l = record { both : BothRun l.domain (world_of l.layout) (take l.event-index l.events) l.first l.second }
