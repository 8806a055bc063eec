-- A packet that a port has no case for, in a layout that isn't guarded: its home has an entry of it as an alien packet.
use Rattle.std.specs.Prelude.{◌≡◌, ℕ, List, ◌++◌, map, Option, Some, option_to_list}
use Rattle.fab_types.specs.declared.class.Class.{Class}
use Rattle.fab_types.specs.declared.place.Place.{Place}
use Rattle.fab_types.specs.declared.violation.Violation.{Violation}
use Rattle.frame_log.specs.Descriptor.{Descriptor}
use Rattle.bridge.specs.Bridges.{Routes}
use Rattle.domain.specs.declared.entry.Entry.TheVariants.{Alien}
use Rattle.lane.specs.Lanes.{eligible}
use Rattle.thread_domains.specs.Locks.{FlyingThere, MadeThere}
use Rattle.port.specs.Courses.{course_of}
use Rattle.port.specs.Misroutes.{misroute_of}
use Rattle.port.specs.Turns.{PortView}
use Rattle.port.specs.declared.misroute.Misroute.{Misroute}
use Rattle.switch_output.specs.Vetted.{Vetted}

-- its home made the entry of these bytes, which were in flight there, and this is what answers it
pub record EnteredThere (frame : Descriptor) (place : Place) (answer : Option Descriptor) : Type 0 where
  pub bytes : List ℕ
  pub flying : FlyingThere frame bytes
  pub made : MadeThere frame.domain (Alien place frame.head.parties bytes) answer

abbrev pub frames_of : List Vetted → List Descriptor
frames_of packets = map (λ packet. packet.frame) packets

-- the eligible packet left what waits, and was entered so; its answer was put into the port's own lane, and the port's
-- report of it, if any, was reported or is held
pub record Misroutes (tree : Routes) (class : Class) (waiting waiting' : List Descriptor) (sent sent' : List Vetted) (port port' : PortView) (reported reported' : List Violation) : Type 0 where
  pub frame : Descriptor
  pub taken : eligible class waiting ≡ Some (frame, waiting')
  pub misroute : Misroute
  pub misrouted : misroute_of tree port.config frame.head (course_of tree port.config frame.head) ≡ Some misroute
  pub answer : Option Descriptor
  pub entered : EnteredThere frame misroute.place answer
  pub put : frames_of sent' ≡ frames_of sent ++ option_to_list answer
  pub told : reported ++ option_to_list misroute.report ≡ reported' ++ option_to_list port'.held
