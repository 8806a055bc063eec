-- What a clause sees of a fabric.
use Rattle.fabric_core.specs.declared.fabric.Fabric.TheInside.{Inside}
use Rattle.fabric_core.specs.World.{World, world_over}

abbrev pub world_in : Inside → World
world_in f = world_over f.interconnect f.agents f.reports.violations f.strays.items
