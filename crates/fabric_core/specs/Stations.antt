-- Where packets wait or travel in a fabric, and the events that move them there.
use Rattle.std.specs.Prelude.{Bool, List, [], ◌∷◌, ◌++◌, map}
use Rattle.fab_types.specs.declared.class.Class.{Class}
use Rattle.fab_types.specs.declared.class.Class.TheVariants.{Posted, NonPosted, Completion}
use Rattle.fab_types.specs.declared.origin.Origin.TheVariants as origin
use Rattle.domains.specs.Agents.{waiting_of}
use Rattle.interconnect.specs.Passes.{input_of}
use Rattle.interconnect.specs.Quiet.{is_quiet_at, none_received_at}
use Rattle.link.specs.Quiet.{none_eligible}
use Rattle.topology.specs.Links.{sender_of}
use Rattle.fabric_core.specs.Aliens.{to_function, to_host}
use Rattle.fabric_core.specs.World.{World}
use Rattle.fabric_core.specs.declared.event.Event.{Event}
use Rattle.fabric_core.specs.declared.event.Event.TheVariants.{Enter, Pass, Send, Take, Credit, Root, Arrive}
use Rattle.fabric_core.specs.declared.station.Station.{Station}
use Rattle.fabric_core.specs.declared.station.Station.TheVariants as station

abbrev pub classes : List Class
classes = Posted ∷ NonPosted ∷ Completion ∷ []

-- the event that takes a packet of a class there
abbrev pub taking : Station → Class → Event
taking (station.FunctionOutbox function) class = Enter (origin.Function function) class
taking (station.HostOutbox domain) class = Enter (origin.Host domain) class
taking (station.Port port) class = Pass port class
taking (station.Link direction) class = Send direction class
taking station.Host class = Root class
taking (station.Function function) class = Arrive function class

-- and what happens on a direction beside that
abbrev pub others_at : Station → List Event
others_at (station.Link direction) = Take direction ∷ Credit direction ∷ []
others_at station = []

abbrev pub events_at : Station → List Event
events_at s = map (taking s) classes ++ others_at s

-- no packet may leave there, and no credits are to be returned
abbrev pub is_quiet : World → Station → Bool
is_quiet w (station.FunctionOutbox function) = none_eligible (waiting_of w.agents.outboxes (origin.Function function))
is_quiet w (station.HostOutbox domain) = none_eligible (waiting_of w.agents.outboxes (origin.Host domain))
is_quiet w (station.Port port) = none_received_at w.channels (input_of w.tree.places port)
is_quiet w (station.Link direction) = is_quiet_at w.channels (sender_of w.tree.links direction)
is_quiet w station.Host = none_received_at w.channels (sender_of w.tree.links to_host)
is_quiet w (station.Function function) = none_received_at w.channels (sender_of w.tree.links (to_function function))
