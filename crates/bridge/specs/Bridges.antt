-- What a clause sees of a `Bridge`.
use Rattle.std.specs.Prelude.{◌≡◌, true, List}
use Rattle.std.specs.List.{list_all}
use Rattle.platform.specs.declared.parts.DownstreamPort.{DownstreamPort}
use Rattle.platform.specs.declared.parts.Switch.{Switch}
use Rattle.layout.specs.Laws.{each_pair, are_apart, is_nested}
use Rattle.platform.specs.Platform.{Platform}
use Rattle.platform.specs.Share.{is_guarded_port}
use Rattle.bridge.specs.declared.routing.Bridge.TheInside.{Inside}
use Rattle.bridge.specs.Groups.{groups_of}

-- switches and their ports
pub record Routes : Type 0 where
  pub switches : List Switch
  pub ports : List DownstreamPort

abbrev pub of_platform : Platform → Routes
of_platform platform = record { switches = platform.switches; ports = platform.ports }

abbrev pub routes_of : Inside → Routes
routes_of s = record { switches = s.lines.items; ports = s.ports }

-- neither the buses nor the windows of two ports of one switch meet; each port is one of a switch; each switch has
-- its ports by it; and what is said of the controls is so
pub record IsBridge (s : Inside) : Type 0 where
  pub apart : each_pair are_apart s.ports ≡ true
  pub nested : list_all (is_nested s.lines.items s.ports) s.ports ≡ true
  pub groups : s.switches ≡ groups_of s.lines.items s.ports
  pub guarded : s.is_guarded ≡ list_all is_guarded_port s.ports
