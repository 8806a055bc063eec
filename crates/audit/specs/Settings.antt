-- What attacks are tried on: a layout, its fabric at the start, and the stations of a sweep.
use Rattle.std.specs.Prelude.{◌≡◌}
use Rattle.std.specs.List.{flat_map}
use Rattle.fabric_core.specs.Stations.{events_at}
use Rattle.fabric_core.specs.World.{world_of}
use Rattle.sweeps.specs.Sweeps.{IsSweep}
use Rattle.audit.specs.declared.setting.Setting.{Setting}

pub record IsSetting (g : Setting) : Type 0 where
  pub start : g.start ≡ world_of g.layout.now
  pub sweep : IsSweep g.layout.now (world_of g.layout.now).agents.domains (flat_map events_at g.stations.items)
