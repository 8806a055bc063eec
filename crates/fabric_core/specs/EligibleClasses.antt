-- Of which classes a packet may leave a station (PCIe 4.0, 2.4.1).
use Rattle.std.specs.Prelude.{◌≡◌, Bool, is_some}
use Rattle.fab_types.specs.declared.class.Class.{Class}
pub use Rattle.port_queue.specs.declared.eligible_classes.EligibleClasses.{EligibleClasses}
pub use Rattle.port_queue.specs.EligibleClasses.{has}
use Rattle.fabric_core.specs.declared.station.Station.{Station}
use Rattle.fabric_core.specs.Isolation.{home}
use Rattle.fabric_core.specs.Stations.{taking}
use Rattle.fabric_core.specs.World.{World}

-- a packet of this class may leave: there is one, whose home the event that takes it is of
abbrev pub leaves : World → Station → Class → Bool
leaves w station class = is_some (home w (taking station class))

-- the classes are those of a station
abbrev pub AreEligible : World → Station → EligibleClasses → Type 0
AreEligible w station eligible_classes = (class : Class) → has eligible_classes class ≡ leaves w station class
