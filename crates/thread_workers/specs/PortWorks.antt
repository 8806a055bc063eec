-- The work of a port, as a contract sees it.
use Rattle.std.specs.Prelude.{◌≡◌, ◌+◌, length}
use Rattle.std.specs.Arc.{arc_value}
use Rattle.bridge.specs.Bridges.{Routes}
use Rattle.port.specs.Configs.{Config}
use Rattle.monitor.specs.Reporting.{QueueSeat, seat_of}
use Rattle.thread_rings.specs.Wired.{Tags}
use Rattle.thread_workers.specs.declared.ports.parts.PortParts.{PortParts}
use Rattle.thread_workers.specs.declared.ports.port_work.PortWork.TheInside.{Inside}

-- what no turn changes
pub record PortKept : Type 0 where
  pub config : Config  -- the port
  pub routes : Routes  -- the switches of the layout
  pub seat : QueueSeat  -- its seat in the queue of violations

pub record PortWorkView : Type 0 where
  pub kept : PortKept
  pub parts : PortParts  -- all that is its own, as it stands

abbrev pub work_view : Inside → PortWorkView
work_view w = record {
  kept = record { config = w.port.config; routes = arc_value w.bridge; seat = seat_of w.reporter };
  parts = record { port = w.port; side = w.side; reporter = w.reporter };
}

-- there is an end for each lane out of the port's switch
abbrev pub HasLanes : PortWorkView → Tags → Type 0
HasLanes work pairs = length pairs.outs ≡ length work.kept.config.exits + 1
