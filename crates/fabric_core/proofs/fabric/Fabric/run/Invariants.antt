use Rattle.std.proofs.Common.{◌≡◌, ◌≤◌, length, take}
use Rattle.std.specs.Prelude.{vec_len, vec_capacity}
use Rattle.fabric_core.specs.Runs.{Run}
use Rattle.fabric_core.proofs.apart.Apart.{AreApartIf}
use Rattle.fabric_core.proofs.fabric.Fabric.run.Given as goal

-- the events so far had the outcomes so far, and in a guarded fabric left other domains alone
abbrev pub invariant-loop-event : goal.invariant-loop-event
invariant-loop-event l = record {
  runs : Run l.fn.self (take l.event-index l.events) l.outcomes.items l.self;
  apart : AreApartIf l.fn.self (take l.event-index l.events) l.outcomes.items l.self;
  made : vec_len l.outcomes ≡ l.event-index;
  room : length l.events ≤ vec_capacity l.outcomes;
}
