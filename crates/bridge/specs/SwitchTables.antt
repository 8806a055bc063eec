-- What holds of a table of switches.
use Rattle.std.specs.Prelude.{◌≡◌, true}
use Rattle.std.specs.List.{list_all}
use Rattle.bridge.specs.declared.switches.SwitchTable.TheInside.{Inside}
use Rattle.bridge.specs.Groups.{is_first_on_bus, places_of}

-- the places are those of its switches, and each upstream port is the first of its bus
pub record IsSwitchTable (s : Inside) : Type 0 where
  pub places : s.places.items ≡ places_of s.switches.items
  pub firsts : list_all (λ group. is_first_on_bus group.line) s.switches.items ≡ true
