-- The work of the host, as a contract sees it.
use Rattle.std.specs.Prelude.{ℕ, List}
use Rattle.std.specs.Arc.{arc_value}
use Rattle.bridge.specs.Bridges.{Routes}
use Rattle.platform.specs.Share.{Share}
use Rattle.thread_workers.specs.declared.host.parts.HostParts.{HostParts}
use Rattle.thread_workers.specs.declared.host.host_work.HostWork.TheInside.{Inside}

-- what no turn changes
pub record HostKept : Type 0 where
  pub shares : List Share  -- what the layout gives each domain
  pub routes : Routes  -- the switches of the layout
  pub locks : List ℕ  -- the numbers of the domains under locks

pub record HostWorkView : Type 0 where
  pub kept : HostKept
  pub parts : HostParts  -- all that is its own, as it stands

abbrev pub work_view : Inside → HostWorkView
work_view w = record {
  kept = record { shares = w.frames; routes = arc_value w.bridge; locks = arc_value w.locks };
  parts = record { hosts = w.hosts; side = w.side; strays = w.strays };
}
