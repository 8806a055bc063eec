-- Why there is no layout of the devices below some ports.
use Rattle.std.specs.Prelude.{ℕ, ◌==◌, Bool, true, ◌&&◌, not, List, [], ◌∷◌, Option, Some, None, if◌then◌else◌}
use Rattle.std.specs.List.{find, list_all, list_any}
use Rattle.text.specs.Text.{◌>>=◌}
use Rattle.fab_types.specs.Id.{bus_of}
use Rattle.lspci.specs.declared.dump.Device.{Device}
use Rattle.lspci.specs.declared.header.BridgeBuses.{BridgeBuses}
use Rattle.lspci.specs.declared.lines.Location.{Location}
use Rattle.lspci.specs.Dumps.{DumpText}
use Rattle.lspci.specs.Headers.{buses_of}
use Rattle.import.specs.declared.fault.ImportFault.{ImportFault}
use Rattle.import.specs.declared.fault.ImportFault.TheVariants as fault
use Rattle.import.specs.declared.owners.Owner.{Owner}
use Rattle.import.specs.declared.tree.Tree.{Tree}
use Rattle.import.specs.Domains.{first_in, is_in}
use Rattle.import.specs.Reasons.{machine_id}
use Rattle.import.specs.Roles.{is_port}
use Rattle.import.specs.Trees.{is_at, role_at, space_of}

-- no more is shown of each device than what everybody may read
abbrev pub is_hidden : DumpText → Bool
is_hidden dump = list_all (λ device. device.count == 64) dump.devices

unfoldable pub has_device : DumpText → Location → Bool
has_device dump location = list_any (is_at location) dump.devices

-- the first device of the list that the dump hasn't
abbrev pub unknown_owner : DumpText → List Owner → Option Owner
unknown_owner dump owners = find (λ owner. not (has_device dump owner.location)) owners

abbrev pub is_only : Option ℕ → ℕ → Bool
is_only None id = true
is_only (Some only) id = only == id

-- a port of the top switch
abbrev pub is_top : DumpText → Tree → Device → Bool
is_top dump tree device =
    (device.location.segment == tree.segment) && (bus_of device.location.id == tree.bus) && is_only tree.only device.location.id && is_port (role_at dump device)

-- the first device of the list that is the port or below it, and has another owner
abbrev pub other_in : List Owner → Location → BridgeBuses → ℕ → Option Owner
other_in owners port buses domain = find (λ owner. is_in port buses owner.location && not (owner.domain == domain)) owners

-- two devices of the list with different owners, if such are the port or below it
abbrev pub mixed_below : List Owner → Location → BridgeBuses → Option ImportFault
mixed_below owners port buses = do
  one ← first_in owners port buses
  other ← other_in owners port buses one.domain
  Some (fault.TwoOwners (machine_id one.location) (machine_id other.location))

unfoldable pub mixed_at : DumpText → Tree → List Owner → Device → Option ImportFault
mixed_at dump tree owners device =
    if is_top dump tree device then buses_of (space_of dump device) >>= mixed_below owners device.location else None

abbrev pub or_else : Option ImportFault → Option ImportFault → Option ImportFault
or_else None other = other
or_else (Some refused) other = Some refused

abbrev pub mixed_among : DumpText → Tree → List Owner → List Device → Option ImportFault
mixed_among dump tree owners [] = None
mixed_among dump tree owners (device ∷ rest) = or_else (mixed_at dump tree owners device) (mixed_among dump tree owners rest)

-- of the first port of the top switch that has such
abbrev pub mixed : DumpText → Tree → List Owner → Option ImportFault
mixed dump tree owners = mixed_among dump tree owners dump.devices

abbrev pub refused_by : Option Owner → Option ImportFault → Option ImportFault
refused_by None other = other
refused_by (Some owner) other = Some (fault.NoDevice (machine_id owner.location))

-- the list names a device that isn't there, or two with different owners below one port
abbrev pub refusal : DumpText → Tree → List Owner → Option ImportFault
refusal dump tree owners = refused_by (unknown_owner dump owners) (mixed dump tree owners)
