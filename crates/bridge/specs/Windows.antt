-- The windows of a switch's ports by megabyte: those of a bridge begin and end at whole megabytes (PCIe 4.0, 7.5.1.3).
use Rattle.std.specs.Prelude.{ℕ, ◌+◌, ◌/◌, Bool, ◌&&◌, nat_le, List, Option}
use Rattle.std.specs.List.{position}
use Rattle.platform.specs.declared.parts.DownstreamPort.{DownstreamPort}
use Rattle.bridge.specs.Tables.{table_of}

abbrev pub megabyte_of : ℕ → ℕ
megabyte_of address = address / 0x100000

-- has the port's window part of this megabyte?
abbrev pub reaches : ℕ → DownstreamPort → Bool
reaches megabyte port = nat_le (megabyte_of port.base) megabyte && nat_le megabyte (megabyte_of port.limit)

-- the place of the first port whose window has part of it
abbrev pub place_reaching : List DownstreamPort → ℕ → Option ℕ
place_reaching ports megabyte = position (reaches megabyte) ports

-- those places, of so many megabytes from the first on
abbrev pub places_from : List DownstreamPort → ℕ → ℕ → List (Option ℕ)
places_from ports first count = table_of count (λ k. place_reaching ports (first + k))
