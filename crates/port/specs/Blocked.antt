-- Where a turn of a port moves nothing: no packet of the class may leave, or the lane that would take it, or its answer,
-- may have no place. What a lane may refuse is a test of a packet's class.
use Rattle.std.specs.Prelude.{ℕ, Bool, true, false, List, Option, Some, None, slice_index_or}
use Rattle.fab_types.specs.declared.class.Class.{Class}
use Rattle.fab_types.specs.declared.class.Class.TheVariants.{Posted, NonPosted, Completion}
use Rattle.frame_log.specs.Descriptor.{Descriptor}
use Rattle.bridge.specs.Bridges.{Routes}
use Rattle.port.specs.declared.course.Forwarding.{Forwarding}
use Rattle.port.specs.declared.course.Forwarding.TheVariants.{To, Stop, NoCase}
use Rattle.lane.specs.Lanes.{eligible}
use Rattle.port.specs.Configs.{Config}
use Rattle.port.specs.Courses.{course_of}

-- may this lane of a switch have no place for a packet of the class?
abbrev pub may_refuse_at : List (Class → Bool) → ℕ → Class → Bool
may_refuse_at lanes lane class = slice_index_or lanes lane (λ _. true) class

-- may a lane have no place for what answers a packet of the class? Only a non-posted request is answered.
abbrev pub may_refuse_answer : (Class → Bool) → Class → Bool
may_refuse_answer may_refuse Posted = false
may_refuse_answer may_refuse NonPosted = may_refuse Completion
may_refuse_answer may_refuse Completion = false

-- may what takes a packet of the class on this course have no place? The desk and the strays have one.
abbrev pub course_is_blocked : List (Class → Bool) → ℕ → Class → Forwarding → Bool
course_is_blocked lanes own class (To lane) = may_refuse_at lanes lane class
course_is_blocked lanes own class (Stop report) = may_refuse_answer (may_refuse_at lanes own) class
course_is_blocked lanes own class NoCase = false

abbrev pub eligible_is_blocked : Routes → Config → List (Class → Bool) → Class → Option (Descriptor × List Descriptor) → Bool
eligible_is_blocked tree config lanes class None = true
eligible_is_blocked tree config lanes class (Some taken) = course_is_blocked lanes config.own class (course_of tree config taken.0.head)

-- is the turn of a class blocked, where this waits and the lanes of the switch may refuse this?
abbrev pub is_blocked : Routes → Config → List (Class → Bool) → Class → List Descriptor → Bool
is_blocked tree config lanes class waiting = eligible_is_blocked tree config lanes class (eligible class waiting)
