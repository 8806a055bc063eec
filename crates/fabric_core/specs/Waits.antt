-- Where a packet waits for a place (PCIe 4.0, 2.4.1).
use Rattle.std.specs.Prelude.{Bool, false}
use Rattle.fab_types.specs.declared.class.Class.{Class}
use Rattle.interconnect.specs.Waits.{waits_among}
use Rattle.fabric_core.specs.declared.station.Station.{Station}
use Rattle.fabric_core.specs.declared.station.Station.TheVariants as station
use Rattle.fabric_core.specs.World.{World}

-- the eligible packet of a class at a port goes on by a lane that has no place for it
abbrev pub waits : World → Station → Class → Bool
waits w (station.FunctionOutbox function) class = false
waits w (station.HostOutbox domain) class = false
waits w (station.Port port) class = waits_among w.tree w.routes w.channels w.ports port class
waits w (station.Link direction) class = false
waits w station.Host class = false
waits w (station.Function function) class = false
