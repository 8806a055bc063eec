-- The line that a device has in a layout, by what its configuration space says and by the ports so far.
use Rattle.std.specs.Prelude.{ℕ, ◌+◌, ◌==◌, ◌&&◌, nat_lt, List, Option, Some, None, option_map, Result, Ok, Err, if◌then◌else◌}
use Rattle.text.specs.Text.{◌>>=◌}
use Rattle.fab_types.specs.Id.{bus_of, device_of, function_of, id_of}
use Rattle.layout_line.specs.declared.lines.EgressText.{EgressText}
use Rattle.layout_line.specs.declared.lines.LayoutLine.{LayoutLine}
use Rattle.layout_line.specs.declared.lines.LayoutLine.TheVariants as line
use Rattle.lspci.specs.declared.dump.Device.{Device}
use Rattle.lspci.specs.declared.header.BridgeBuses.{BridgeBuses}
use Rattle.lspci.specs.Dumps.{DumpText}
use Rattle.lspci.specs.Headers.{buses_of}
use Rattle.platform.specs.declared.parts.DownstreamPort.{DownstreamPort}
use Rattle.platform.specs.Tree.{port_leading_to}
use Rattle.import.specs.declared.reason.Reason.{Reason}
use Rattle.import.specs.declared.reason.Reason.TheVariants as reason
use Rattle.import.specs.declared.owners.Owner.{Owner}
use Rattle.import.specs.declared.role.LowWindow.{LowWindow}
use Rattle.import.specs.declared.role.Role.{Role}
use Rattle.import.specs.declared.role.Role.TheVariants as role
use Rattle.import.specs.declared.tree.Tree.{Tree}
use Rattle.import.specs.Controls.{controls_of}
use Rattle.import.specs.Domains.{owner_of}
use Rattle.import.specs.Pages.{page_from}
use Rattle.import.specs.Places.{bridge_to}
use Rattle.import.specs.Roles.{port_window}
use Rattle.import.specs.Trees.{bus_in, last_bus_in, role_at, space_of, upstream_to}

-- what follows from a value, or this reason where there is none
abbrev pub need : {A : Type 0} → Reason → Option A → (A → Result LayoutLine Reason) → Result LayoutLine Reason
need reason None go = Err reason
need reason (Some value) go = go value

abbrev pub only_at : Option ℕ → ℕ → Option ℕ
only_at None id = Some 2
only_at (Some only) id = if only == id then Some 2 else None

abbrev pub next_bus : ℕ → Option ℕ
next_bus bus = if nat_lt (bus + 1) 256 then Some (bus + 1) else None

-- The bus of a port in the layout is 02 of those of the top switch, and of another switch's ports the bus behind that of its
-- upstream port.
abbrev pub port_bus : DumpText → Tree → ℕ → Option ℕ
port_bus dump tree id =
    if bus_of id == tree.bus then only_at tree.only id
    else (do
      upstream ← upstream_to dump tree.segment (bus_of id)
      bus ← bus_in tree (bus_of upstream.location.id)
      next_bus bus)

-- the ID that a port of the machine has in the layout
abbrev pub line_id : DumpText → Tree → ℕ → Option ℕ
line_id dump tree id = option_map (λ bus. id_of bus (device_of id) 0) (port_bus dump tree id)

abbrev pub port_on : DumpText → Tree → List Owner → List EgressText → List DownstreamPort → Device → ℕ → BridgeBuses → ℕ → LowWindow → LayoutLine
port_on dump tree owners vectors ports device bus buses secondary window = line.Port (record {
  id = id_of bus (device_of device.location.id) 0;
  secondary = secondary;
  subordinate = last_bus_in tree buses.subordinate;
  base = window.base;
  limit = window.limit;
  controls = controls_of (space_of dump device) vectors (id_of bus (device_of device.location.id) 0);
  owner = owner_of tree owners ports device.location buses bus;
})

-- a root port, or a downstream port of a switch
abbrev pub port_line : DumpText → Tree → List Owner → List EgressText → List DownstreamPort → Device → Result LayoutLine Reason
port_line dump tree owners vectors ports device =
    if function_of device.location.id == 0 then
    need reason.Outside (port_bus dump tree device.location.id) (λ bus.
    need reason.Kind (buses_of (space_of dump device)) (λ buses.
    need reason.Buses (bus_in tree buses.secondary) (λ secondary.
    need reason.Window (port_window (space_of dump device)) (λ window.
    Ok (port_on dump tree owners vectors ports device bus buses secondary window)))))
    else Err reason.Function

-- a function stands directly below a port, as device 0 and function 0
abbrev pub if_first : Device → Result LayoutLine Reason → Result LayoutLine Reason
if_first device found = if (device_of device.location.id == 0) && (function_of device.location.id == 0) then found else Err reason.Function

-- the upstream port of a switch
abbrev pub switch_line : Tree → List DownstreamPort → Device → Result LayoutLine Reason
switch_line tree ports device =
    need reason.Outside (bus_in tree (bus_of device.location.id)) (λ bus.
    need reason.Unreached (port_leading_to ports (id_of bus 0 0)) (λ above.
    if_first device (Ok (line.Switch (record { id = id_of bus 0 0; above = above.id })))))

abbrev pub window_of : DownstreamPort → LowWindow
window_of port = record { base = port.base; limit = port.limit }

abbrev pub by_bridge : Option Device → Reason
by_bridge None = reason.Integrated
by_bridge (Some bridge) = reason.Unreached

-- why no port of the layout leads to a bus
abbrev pub unreached : DumpText → ℕ → ℕ → Reason
unreached dump segment bus = by_bridge (bridge_to dump segment bus)

-- an endpoint
abbrev pub function_line : DumpText → Tree → List DownstreamPort → Device → Result LayoutLine Reason
function_line dump tree ports device =
    need (unreached dump tree.segment (bus_of device.location.id)) (bus_in tree (bus_of device.location.id)) (λ bus.
    need (unreached dump tree.segment (bus_of device.location.id)) (port_leading_to ports (id_of bus 0 0)) (λ above.
    if_first device (need reason.Page (page_from (space_of dump device) (window_of above) 6 0) (λ page.
    Ok (line.Function (record { id = id_of bus 0 0; bar = page }))))))

abbrev pub line_of_role : DumpText → Tree → List Owner → List EgressText → List DownstreamPort → Device → Role → Result LayoutLine Reason
line_of_role dump tree owners vectors ports device role.RootPort = port_line dump tree owners vectors ports device
line_of_role dump tree owners vectors ports device role.Downstream = port_line dump tree owners vectors ports device
line_of_role dump tree owners vectors ports device role.Upstream = switch_line tree ports device
line_of_role dump tree owners vectors ports device role.Endpoint = function_line dump tree ports device
line_of_role dump tree owners vectors ports device role.Other = Err reason.Kind

-- the line that a device has behind those that gave these ports, in a layout with these vectors, or why it has none
unfoldable pub statement_of : DumpText → Tree → List Owner → List EgressText → List DownstreamPort → Device → Result LayoutLine Reason
statement_of dump tree owners vectors ports device = line_of_role dump tree owners vectors ports device (role_at dump device)
