-- What a sweeper holds.
use Rattle.std.specs.Prelude.{List}
use Rattle.fabric_core.specs.declared.station.Station.{Station}
use Rattle.fabric_core.specs.World.{World}

pub record Swept : Type 0 where
  pub world : World
  pub stations : List Station  -- in the order of a sweep
