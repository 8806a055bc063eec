-- What a bus number leads to (PCIe 4.0, 7.5.1.3).
use Rattle.std.specs.Prelude.{◌≡◌, ◌<◌, ℕ, ◌==◌, Bool, false, ◌&&◌, List, Option, Some, None, length, slice_index_or, if◌then◌else◌}
use Rattle.std.specs.List.{find, list_any}
use Rattle.platform.specs.declared.parts.DownstreamPort.{DownstreamPort}
use Rattle.platform.specs.declared.parts.EndpointFunction.{EndpointFunction}
use Rattle.fab_types.specs.Controls.{controls_egress}
use Rattle.platform.specs.Owners.{holds_bus, owner_of_bus}
use Rattle.platform.specs.Reach.{line_at}
use Rattle.platform.specs.declared.start.buses.BusEntry.{BusEntry}

-- is it directly below a port of the domain?
abbrev pub is_below : List DownstreamPort → ℕ → ℕ → Bool
is_below ports domain bus = list_any (λ port. (port.owner == domain) && (port.secondary == bus)) ports

-- is it this function's ID?
abbrev pub leads_to : Option EndpointFunction → ℕ → Bool
leads_to None id = false
leads_to (Some line) id = line.id == id

-- its BAR, if it is
abbrev pub bar_at : Option EndpointFunction → ℕ → Option ℕ
bar_at None id = None
bar_at (Some line) id = if line.id == id then Some line.bar else None

-- does a port above it control egress?
abbrev pub controls_egress_above : List DownstreamPort → ℕ → Bool
controls_egress_above ports bus = list_any (λ port. holds_bus port bus && controls_egress port.controls) ports

abbrev pub bus_entry : List DownstreamPort → List EndpointFunction → ℕ → ℕ → BusEntry
bus_entry ports functions domain bus = record {
  first_port = find (λ port. port.secondary == bus) ports;
  owner = owner_of_bus ports bus;
  function = line_at ports functions bus;
  is_own = is_below ports domain bus;
  controls_egress = controls_egress_above ports bus;
}

-- for a domain, the entry of each bus number
pub record IsBusTable (ports : List DownstreamPort) (functions : List EndpointFunction) (domain : ℕ) (table : List BusEntry) : Type 0 where
  pub long : length table ≡ 256
  pub filled : (bus : ℕ) (other : BusEntry) → bus < 256 → slice_index_or table bus other ≡ bus_entry ports functions domain bus
