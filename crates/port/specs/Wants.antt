-- Where a turn of a port may want memory: only for an eligible packet that it stops or keeps, and never for one that it
-- forwards.
use Rattle.std.specs.Prelude.{◌≡◌, ℕ, ⊤, ◌⊎◌, false, List, Some, None}
use Rattle.fab_types.specs.declared.class.Class.{Class}
use Rattle.frame_log.specs.Descriptor.{Descriptor}
use Rattle.bridge.specs.Bridges.{Routes}
use Rattle.port.specs.declared.course.Forwarding.{Forwarding}
use Rattle.port.specs.declared.course.Forwarding.TheVariants.{To, Stop, NoCase}
use Rattle.port.specs.Configs.{Config}
use Rattle.port.specs.Courses.{course_of}
use Rattle.lane.specs.Lanes.{eligible}
use Rattle.switch_output.specs.Vetted.{may_go_on}

-- a packet of the class is eligible, and it is such a one
pub record Awaits (class : Class) (waiting : List Descriptor) (such : Descriptor → Type 0) : Type 0 where
  pub frame : Descriptor
  pub rest : List Descriptor
  pub taken : eligible class waiting ≡ Some (frame, rest)
  pub is_such : such frame

module _ {K : Type 0} (wants unknown : K → Descriptor → ℕ → Type 0) (tree : Routes) (config : Config) where
  -- What a packet on this course wants memory for: to be kept, as one that may not go on or that nobody has a case for; a
  -- place for its report; or an answer.
  abbrev pub CourseWants : K → Descriptor → Forwarding → Type 0
  CourseWants known frame (To lane) = may_go_on tree.ports frame ≡ false
  CourseWants known frame (Stop None) = wants known frame config.id ⊎ unknown known frame config.id
  CourseWants known frame (Stop (Some report)) = ⊤
  CourseWants known frame NoCase = ⊤

  abbrev pub WantsMemory : K → Class → List Descriptor → Type 0
  WantsMemory known class waiting = Awaits class waiting (λ frame. CourseWants known frame (course_of tree config frame.head))
