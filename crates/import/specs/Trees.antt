-- The part of a machine that a layout is made of: what is below some ports, which are those of the top switch.
use Rattle.std.specs.Prelude.{ℕ, ◌+◌, ◌-◌, min, count_by, ◌==◌, Bool, ◌&&◌, nat_le, nat_lt, List, take, drop, Option, Some, None, option_map, Result, Ok, Err, if◌then◌else◌}
use Rattle.std.specs.List.{find, list_any}
use Rattle.text.specs.Text.{◌>>=◌}
use Rattle.fab_types.specs.Id.{bus_of}
use Rattle.lspci.specs.declared.dump.Device.{Device}
use Rattle.lspci.specs.declared.header.BridgeBuses.{BridgeBuses}
use Rattle.lspci.specs.declared.lines.Location.{Location}
use Rattle.lspci.specs.Acs.{is_number}
use Rattle.lspci.specs.Dumps.{DumpText}
use Rattle.lspci.specs.Headers.{buses_of}
use Rattle.import.specs.declared.fault.ImportFault.{ImportFault}
use Rattle.import.specs.declared.fault.ImportFault.TheVariants as fault
use Rattle.import.specs.declared.role.Role.{Role}
use Rattle.import.specs.declared.tree.Asked.{Asked}
use Rattle.import.specs.declared.tree.Tree.{Tree}
use Rattle.import.specs.Reasons.{machine_id}
use Rattle.import.specs.Roles.{is_root, is_upstream, role_of}

-- the configuration space of a device, as far as it is shown
abbrev pub space_of : DumpText → Device → List ℕ
space_of dump device = take device.count (drop device.first dump.bytes)

abbrev pub role_at : DumpText → Device → Role
role_at dump device = role_of (space_of dump device)

abbrev pub is_at : Location → Device → Bool
is_at location device = (device.location.segment == location.segment) && (device.location.id == location.id)

unfoldable pub is_root_port : DumpText → Device → Bool
is_root_port dump device = is_root (role_at dump device)

unfoldable pub is_root_at : DumpText → Location → Device → Bool
is_root_at dump location device = is_at location device && is_root_port dump device

unfoldable pub is_root_on_bus_0 : DumpText → Device → Bool
is_root_on_bus_0 dump device = (device.location.segment == 0) && (bus_of device.location.id == 0) && is_root_port dump device

-- the first bus below a bridge
abbrev pub secondary_of : DumpText → Device → Option ℕ
secondary_of dump device = option_map (λ buses. buses.secondary) (buses_of (space_of dump device))

-- the upstream port of the switch whose ports stand on this bus
unfoldable pub is_upstream_to : DumpText → ℕ → ℕ → Device → Bool
is_upstream_to dump segment bus device =
    (device.location.segment == segment) && is_upstream (role_at dump device) && is_number bus (secondary_of dump device)

abbrev pub upstream_to : DumpText → ℕ → ℕ → Option Device
upstream_to dump segment bus = find (is_upstream_to dump segment bus) dump.devices

unfoldable pub is_upstream_on : DumpText → ℕ → ℕ → Device → Bool
is_upstream_on dump segment bus device =
    (device.location.segment == segment) && (bus_of device.location.id == bus) && is_upstream (role_at dump device)

-- the bus of the ports of the switch directly below a root port
abbrev pub bus_below : DumpText → Device → Option ℕ
bus_below dump root = do
  bus ← secondary_of dump root
  upstream ← find (is_upstream_on dump root.location.segment bus) dump.devices
  secondary_of dump upstream

abbrev pub asked_by : Device → BridgeBuses → Asked
asked_by root buses = record { root = root.location.id; buses = buses }

-- the root port and its buses, as what was asked for
abbrev pub asked_at : DumpText → Device → Option Asked
asked_at dump root = option_map (asked_by root) (buses_of (space_of dump root))

abbrev pub ports_below : DumpText → Device → Option ℕ → Tree
ports_below dump root None = record { segment = root.location.segment; bus = bus_of root.location.id; only = Some root.location.id; asked = asked_at dump root }
ports_below dump root (Some bus) = record { segment = root.location.segment; bus = bus; only = None; asked = asked_at dump root }

-- the ports of that switch, or, where there is none, the root port alone
abbrev pub below_root : DumpText → Device → Tree
below_root dump root = ports_below dump root (bus_below dump root)

abbrev pub tree_below : DumpText → Location → Option Device → Result Tree ImportFault
tree_below dump location None = Err (fault.NotRoot (machine_id location))
tree_below dump location (Some root) = Ok (below_root dump root)

-- so many root ports stand elsewhere, and this is the first
abbrev pub no_root : ℕ → Option Device → ImportFault
no_root count None = fault.NoRoot
no_root count (Some first) = fault.OtherRoots (machine_id first.location) count

abbrev pub whole : Tree
whole = record { segment = 0; bus = 0; only = None; asked = None }

-- what is below the root port at this place, or below all root ports of bus 00
abbrev pub tree_of : DumpText → Option Location → Result Tree ImportFault
tree_of dump None =
    if list_any (is_root_on_bus_0 dump) dump.devices then Ok whole
    else Err (no_root (count_by (is_root_port dump) dump.devices) (find (is_root_port dump) dump.devices))
tree_of dump (Some location) = tree_below dump location (find (is_root_at dump location) dump.devices)

-- the number that a bus has in the layout, in which the ports of the top switch stand on bus 02
abbrev pub bus_in : Tree → ℕ → Option ℕ
bus_in tree bus = if nat_le tree.bus bus && nat_lt (bus - tree.bus + 2) 256 then Some (bus - tree.bus + 2) else None

-- the same of the last bus below a port
abbrev pub last_bus_in : Tree → ℕ → ℕ
last_bus_in tree bus = min (bus - tree.bus + 2) 255
