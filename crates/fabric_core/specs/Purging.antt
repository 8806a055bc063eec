-- One event of a run, and of a run without the events of other domains.
use Rattle.std.specs.Prelude.{◌≡◌, ℕ, Bool, true, false}
use Rattle.fab_types.specs.declared.outcome.Outcome.{Outcome}
use Rattle.fabric_core.specs.declared.event.Event.{Event}
use Rattle.fabric_core.specs.Events.{StepsTo}
use Rattle.fabric_core.specs.TakenOut.{HasMemory, is_left}
use Rattle.fabric_core.specs.World.{World}

-- an event that is left is made, without want of memory
abbrev pub StepsIf : Bool → Event → World → World → Type 0
StepsIf true event old new = (outcome : Outcome) × StepsTo old event outcome new × HasMemory outcome
StepsIf false event old new = new ≡ old

-- the first run makes the event, and the second makes it where it is left
abbrev pub BothStep : ℕ → Event → World → World → World → World → Type 0
BothStep d event first first' second second' =
    (outcome : Outcome) × StepsTo first event outcome first' × StepsIf (is_left d first event outcome) event second second'
