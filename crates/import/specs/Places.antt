-- Why a device has no place in a layout, before its own line is looked at: where it stands in the machine.
use Rattle.std.specs.Prelude.{ℕ, ◌==◌, Bool, false, ◌&&◌, ◌||◌, not, is_none, is_some, nat_le, nat_lt, unwrap_or, List, Option, Some, None, option_and_then, if◌then◌else◌}
use Rattle.std.specs.List.{find}
use Rattle.text.specs.Text.{◌>>=◌}
use Rattle.fab_types.specs.Id.{bus_of}
use Rattle.lspci.specs.declared.dump.Device.{Device}
use Rattle.lspci.specs.declared.header.BridgeBuses.{BridgeBuses}
use Rattle.lspci.specs.declared.header.HeaderKind.{HeaderKind}
use Rattle.lspci.specs.declared.header.HeaderKind.TheVariants as kind
use Rattle.lspci.specs.declared.lines.Location.{Location}
use Rattle.lspci.specs.Dumps.{DumpText}
use Rattle.lspci.specs.Headers.{buses_of, kind_of}
use Rattle.import.specs.declared.reason.LeftOut.{LeftOut}
use Rattle.import.specs.declared.reason.Reason.{Reason}
use Rattle.import.specs.declared.reason.Reason.TheVariants as reason
use Rattle.import.specs.declared.reason.Why.{Why}
use Rattle.import.specs.declared.tree.Asked.{Asked}
use Rattle.import.specs.declared.tree.Tree.{Tree}
use Rattle.import.specs.Reasons.{machine_id}
use Rattle.import.specs.Refusals.{is_only}
use Rattle.import.specs.Roles.{is_root, is_upstream, is_virtual}
use Rattle.import.specs.Trees.{role_at, space_of}

-- ---- by where it stands

abbrev pub of_other_segment : DumpText → Tree → Device → Reason
of_other_segment dump tree device = if is_none tree.asked && is_root (role_at dump device) then reason.OtherRoot else reason.Segment

-- where all root ports of bus 00 are asked for
abbrev pub beside : DumpText → Tree → Device → Option Reason
beside dump tree device = if is_root (role_at dump device) && not (bus_of device.location.id == tree.bus) then Some reason.OtherRoot else None

-- the root port that was asked for, or the upstream port directly below it
abbrev pub is_above : DumpText → Asked → Device → Bool
is_above dump asked device =
    (device.location.id == asked.root) || ((bus_of device.location.id == asked.buses.secondary) && is_upstream (role_at dump device))

-- on one of the buses below that root port
abbrev pub is_among : Asked → ℕ → Bool
is_among asked id = nat_le asked.buses.secondary (bus_of id) && nat_le (bus_of id) asked.buses.subordinate

-- where one root port is asked for: it is the only port of the top switch, or the ports of a switch below it are
abbrev pub by_asked : DumpText → Option ℕ → Asked → Device → Option Reason
by_asked dump only asked device =
    if is_some only && is_only only device.location.id then None
    else (if is_above dump asked device then Some reason.Above
    else (if is_among asked device.location.id then None else Some reason.Outside))

abbrev pub in_segment : DumpText → Tree → Device → Option Asked → Option Reason
in_segment dump tree device None = beside dump tree device
in_segment dump tree device (Some asked) = by_asked dump tree.only asked device

abbrev pub standing : DumpText → Tree → Device → Option Reason
standing dump tree device =
    if device.location.segment == tree.segment then in_segment dump tree device tree.asked else Some (of_other_segment dump tree device)

abbrev pub unless_virtual : List ℕ → Option Reason → Option Reason
unless_virtual bytes None = if is_virtual bytes then Some reason.Virtual else None
unless_virtual bytes (Some first) = Some first

-- by that, or since it is a virtual function
abbrev pub first_reason : DumpText → Tree → Device → Option Reason
first_reason dump tree device = unless_virtual (space_of dump device) (standing dump tree device)

-- ---- by the bridge above it

abbrev pub leads_to : Device → ℕ → ℕ → Option HeaderKind → Option BridgeBuses → Bool
leads_to device segment bus (Some kind.Bridge) (Some buses) = (device.location.segment == segment) && nat_lt (bus_of device.location.id) bus && (buses.secondary == bus)
leads_to device segment bus _ _ = false

-- the bridge directly above a bus
unfoldable pub is_bridge_to : DumpText → ℕ → ℕ → Device → Bool
is_bridge_to dump segment bus device = leads_to device segment bus (kind_of (space_of dump device)) (buses_of (space_of dump device))

abbrev pub bridge_to : DumpText → ℕ → ℕ → Option Device
bridge_to dump segment bus = find (is_bridge_to dump segment bus) dump.devices

abbrev pub left_out_at : List LeftOut → Location → Option LeftOut
left_out_at left_out location = find (λ part. (part.location.segment == location.segment) && (part.location.id == location.id)) left_out

abbrev pub own : Reason → Option Why
own reason = Some (record { port = None; reason = reason })

abbrev pub of_port : LeftOut → Option Why
of_port above = Some (record { port = Some (unwrap_or above.why.port (machine_id above.location)); reason = above.why.reason })

abbrev pub by_reason : LeftOut → Reason → Option Why
by_reason above reason.Above = None
by_reason above reason.Outside = own reason.Outside
by_reason above reason.Segment = own reason.Segment
by_reason above reason.Kind = own reason.Conventional
by_reason above reason.Conventional = own reason.Conventional
by_reason above _ = of_port above

-- why what is below a bridge has no place, where the bridge has none
abbrev pub through : LeftOut → Option Why
through above = by_reason above above.why.reason

abbrev pub blocked : DumpText → List LeftOut → Device → Option Why
blocked dump left_out device = do
  bridge ← bridge_to dump device.location.segment (bus_of device.location.id)
  above ← left_out_at left_out bridge.location
  through above

abbrev pub or_blocked : DumpText → List LeftOut → Device → Option Reason → Option Why
or_blocked dump left_out device None = blocked dump left_out device
or_blocked dump left_out device (Some first) = own first

-- why it has no place, whatever its own line were
abbrev pub why_not : DumpText → Tree → List LeftOut → Device → Option Why
why_not dump tree left_out device = or_blocked dump left_out device (first_reason dump tree device)
