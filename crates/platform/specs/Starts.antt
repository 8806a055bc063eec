-- What a clause sees of a `Start`.
use Rattle.platform.specs.Share.{Share, IsShare}
use Rattle.platform.specs.Buses.{IsBusTable}
use Rattle.platform.specs.Tables.{MapsOnce}
use Rattle.platform.specs.declared.start.Start.TheInside.{Inside}

abbrev pub share_of : Inside → Share
share_of s = record {
  domain = s.domain;
  budget = s.budget;
  frames = s.frames.items;
  maps = s.maps.items;
  switches = s.switches.items;
  ports = s.ports.items;
  functions = s.functions.items;
}

pub record IsStart (s : Inside) : Type 0 where
  pub share : IsShare (share_of s)
  pub once : MapsOnce s.maps.items
  pub buses : IsBusTable s.ports.items s.functions.items s.domain s.buses.items
