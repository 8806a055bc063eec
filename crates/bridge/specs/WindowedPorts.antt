-- What holds of ports with the table of their windows.
use Rattle.std.specs.Prelude.{◌≡◌, ◌+◌, ◌<◌, ◌≤◌, length, All}
use Rattle.bridge.specs.declared.windows.WindowedPorts.TheInside.{Inside}
use Rattle.bridge.specs.Windows.{megabyte_of, places_from}

-- no window reaches below the table or past it, and the places are those of its megabytes
pub record AreWindowedPorts (s : Inside) : Type 0 where
  pub below : All (λ port. s.first ≤ megabyte_of port.base) s.ports.items
  pub past : All (λ port. megabyte_of port.limit < s.first + length s.places.items) s.ports.items
  pub places : s.places.items ≡ places_from s.ports.items s.first (length s.places.items)
