-- What a clause sees of a `Layout`.
use Rattle.platform.specs.Platform.{Platform}
use Rattle.layout.specs.Laws.{IsPlatform}
use Rattle.layout.specs.Places.{IsWellPlaced}
use Rattle.layout.specs.declared.layout.Layout.TheInside.{Inside}

abbrev pub platform_of : Inside → Platform
platform_of s = record {
  version = s.version;
  frames = s.frames;
  switches = s.switches.items;
  ports = s.ports.items;
  functions = s.functions.items;
  maps = s.maps;
  budgets = s.budgets.items;
  credits = s.credits.items;
}

pub record IsLayout (s : Inside) : Type 0 where
  pub platform : IsPlatform (platform_of s)
  pub places : IsWellPlaced (platform_of s)
