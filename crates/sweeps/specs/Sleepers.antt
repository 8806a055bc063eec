-- What every sweeper keeps: each of its stations that isn't awake is idle.
use Rattle.std.specs.Prelude.{All, length, map}
use Rattle.sweeps.specs.declared.sweeper.Sweeper.TheInside.{Inside}
use Rattle.sweeps.specs.Asleep.{AreAsleep, AreWithin, station_of}
use Rattle.sweeps.specs.Swept.{Swept}

abbrev pub swept_of : Inside → Swept
swept_of s = record { world = s.fabric; stations = map station_of s.watchpoints.items }

pub record IsSweeper (s : Inside) : Type 0 where
  pub within : All (AreWithin (length s.watchpoints.items)) s.watchpoints.items
  pub asleep : AreAsleep s.watchpoints.items s.fabric s.awake
