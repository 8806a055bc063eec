-- What a port has no case for: no course leads on from it, and it isn't stopped there.
use Rattle.std.specs.Prelude.{Option, Some, None}
use Rattle.fab_types.specs.declared.head.Head.{Head}
use Rattle.fab_types.specs.declared.place.Place.TheVariants.{Ingress}
use Rattle.bridge.specs.Bridges.{Routes}
use Rattle.port.specs.declared.course.Forwarding.{Forwarding}
use Rattle.port.specs.declared.course.Forwarding.TheVariants.{To, Stop, NoCase}
use Rattle.port.specs.declared.misroute.Misroute.{Misroute}
use Rattle.port.specs.Configs.{Config, direction_in}
use Rattle.port.specs.Courses.{report_elsewhere}

-- of a packet with this head and course: it waits at the port's receiver, and the port may report it
abbrev pub misroute_of : Routes → Config → Head → Forwarding → Option Misroute
misroute_of tree config head (To lane) = None
misroute_of tree config head (Stop report) = None
misroute_of tree config head NoCase = Some (record { place = Ingress (direction_in config); report = report_elsewhere tree config head })
