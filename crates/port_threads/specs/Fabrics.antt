-- The workers of a fabric and the rings between them: before they run, while they run, and after.
use Rattle.std.specs.Prelude.{◌≡◌, ℕ, Bool, List, map, length}
use Rattle.std.specs.List.{list_all}
use Rattle.std.specs.Arc.{arc_value}
use Rattle.credit.specs.declared.counters.Counters.{Counters}
use Rattle.fab_types.specs.declared.origin.Origin.{Origin}
use Rattle.frame_log.specs.Descriptor.{Descriptor}
use Rattle.thread_crew.specs.Crews.{started}
use Rattle.thread_plan.specs.Plans.{Tables, plan_of}
use Rattle.platform.specs.Platform.{Platform}
use Rattle.platform.specs.Share.{is_guarded_port}
use Rattle.switch_output.specs.Vetted.{Vetted}
use Rattle.thread_rings.specs.Wired.{AreWithin, Tags, dealt, table_of}
use Rattle.thread_rings.specs.declared.laid.Laid.{Laid}
use Rattle.thread_rings.specs.declared.wire.Wire.{Wire}
use Rattle.thread_staff.specs.Kept.{PostKept, role_of}
use Rattle.thread_staff.specs.Watched.{MonitorKept}
use Rattle.port_threads.specs.Kept.{Kept, kept_of, monitor_kept}
use Rattle.thread_staff.specs.Origins.{origins_in, origins_of}
use Rattle.thread_staff.specs.Roles.{roles_of, starting_numbers}
use Rattle.thread_staff.specs.Seats.{AreWatched}
use Rattle.port_threads.specs.declared.resting.Resting.TheInside as resting
use Rattle.port_threads.specs.declared.running.Running.TheInside as running

-- the plan, and whether all five controls are set on each port; the rings that were laid for its three tables, what no turn
-- of a worker or of the monitor changes, and the numbers of the domains under locks; and whose injectors nobody has taken yet
pub record FabricView : Type 0 where
  pub tables : Tables
  pub guarded : Bool
  pub links : List (Laid Descriptor)
  pub credits : List (Laid Counters)
  pub pairs : List (Laid Vetted)
  pub workers : List Kept
  pub monitor : MonitorKept
  pub numbers : List ℕ
  pub origins : List Origin

abbrev pub posts_in : FabricView → List PostKept
posts_in f = map (λ k. k.post) f.workers

-- ---- what is kept

module _ {T : Type 0} where
  -- the workers have the ends of these rings, which were laid for these wires
  pub record AreDealt (wires : List Wire) (made : List (Laid T)) (tags : List Tags) : Type 0 where
    pub wires_are : map (λ r. r.wire) made ≡ wires
    pub within : AreWithin (length tags) wires
    pub ends : tags ≡ dealt (length tags) (table_of made)

pub record IsFabric (f : FabricView) : Type 0 where
  pub links : AreDealt f.tables.links f.links (map (λ k. k.links) f.workers)
  pub credits : AreDealt f.tables.credits f.credits (map (λ k. k.credits) f.workers)
  pub pairs : AreDealt f.tables.pairs f.pairs (map (λ k. k.pairs) f.workers)
  pub watched : AreWatched f.monitor (posts_in f)

-- it is that of this layout
pub record IsFabricOf (platform : Platform) (f : FabricView) : Type 0 where
  pub tables : f.tables ≡ plan_of platform
  pub guarded : f.guarded ≡ list_all is_guarded_port platform.ports
  pub roles : map role_of (posts_in f) ≡ roles_of platform
  pub numbers : f.numbers ≡ starting_numbers platform
  pub origins : f.origins ≡ origins_of platform

-- ---- of workers that don't run, and of those that do

abbrev pub resting_view : resting.Inside → FabricView
resting_view r = record {
  tables = r.plan;
  guarded = r.is_guarded;
  links = r.links.value.items;
  credits = r.credits.value.items;
  pairs = r.pairs.value.items;
  workers = map kept_of r.workers.items;
  monitor = monitor_kept r.monitor;
  numbers = arc_value r.locks;
  origins = origins_in r.injectors.items;
}

abbrev pub running_view : running.Inside → FabricView
running_view r = record {
  tables = r.plan;
  guarded = r.is_guarded;
  links = r.links.value.items;
  credits = r.credits.value.items;
  pairs = r.pairs.value.items;
  workers = map kept_of (started r.workers.items);
  monitor = monitor_kept r.monitor.promise.0.value;
  numbers = arc_value r.locks;
  origins = origins_in r.injectors.items;
}

abbrev pub IsResting : resting.Inside → Type 0
IsResting r = IsFabric (resting_view r)

abbrev pub IsRunning : running.Inside → Type 0
IsRunning r = IsFabric (running_view r)
