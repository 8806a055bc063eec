-- Egress Control Vectors, as far as a layout of version 2 can say them (PCIe 4.0, 6.12.1.1 and 7.7.8.4).
use Rattle.std.specs.Prelude.{ℕ, ◌-◌, ◌/◌, ◌%◌, ◌^◌, ◌==◌, Bool, true, false, ◌&&◌, not, List, [], ◌∷◌, Option, Some, None, option_and_then, option_map, if◌then◌else◌}
use Rattle.std.specs.List.{filter_map, find, list_any}
use Rattle.text.specs.Text.{◌>>=◌}
use Rattle.fab_types.specs.Id.{bus_of, device_of}
use Rattle.layout_line.specs.declared.lines.EgressText.{EgressText}
use Rattle.lspci.specs.declared.dump.Device.{Device}
use Rattle.lspci.specs.Acs.{egress_bit}
use Rattle.lspci.specs.Capabilities.{port_number_of}
use Rattle.lspci.specs.Dumps.{DumpText}
use Rattle.platform.specs.declared.parts.DownstreamPort.{DownstreamPort}
use Rattle.platform.specs.declared.parts.EndpointFunction.{EndpointFunction}
use Rattle.platform.specs.Platform.{Platform}
use Rattle.import.specs.declared.reason.LeftOut.{LeftOut}
use Rattle.import.specs.declared.tree.Tree.{Tree}
use Rattle.import.specs.Controls.{sets_egress}
use Rattle.import.specs.DeviceViews.{Imported}
use Rattle.import.specs.Places.{left_out_at}
use Rattle.import.specs.Roles.{is_port}
use Rattle.import.specs.Statements.{line_id}
use Rattle.import.specs.Trees.{role_at, space_of}

abbrev pub unless_left_out : Option LeftOut → Option ℕ → Option ℕ
unless_left_out None id = id
unless_left_out (Some part) id = None

-- the ID that a device has as a port of the layout, if it is one
abbrev pub place_of : DumpText → Tree → List LeftOut → Device → Option ℕ
place_of dump tree left_out device =
    if is_port (role_at dump device) then unless_left_out (left_out_at left_out device.location) (line_id dump tree device.location.id) else None

abbrev pub is_clear : Option Bool → Bool
is_clear (Some true) = false
is_clear (Some false) = true
is_clear None = true

abbrev pub lets_number_through : List ℕ → Option ℕ → Bool
lets_number_through port None = true
lets_number_through port (Some number) = is_clear (egress_bit port number)

-- requests may go directly from the port to the other one, where its bit isn't known to be 1
abbrev pub lets_through : List ℕ → List ℕ → Bool
lets_through port other = lets_number_through port (port_number_of other)

abbrev pub port_at : List DownstreamPort → ℕ → Option DownstreamPort
port_at ports id = find (λ port. port.id == id) ports

abbrev pub has_function_on : List EndpointFunction → ℕ → Bool
has_function_on functions bus = list_any (λ function. bus_of function.id == bus) functions

abbrev pub are_own : List EndpointFunction → Option DownstreamPort → Option DownstreamPort → Bool
are_own functions (Some one) (Some other) = (one.owner == other.owner) && has_function_on functions other.secondary
are_own functions _ _ = false

-- the two ports have one owner, and the other has a function directly below it
abbrev pub is_own : Platform → ℕ → ℕ → Bool
is_own platform one other = are_own platform.functions (port_at platform.ports one) (port_at platform.ports other)

-- the vector with the bit of this device cleared
abbrev pub clear_bit : ℕ → ℕ → ℕ
clear_bit vector device = if (vector / 2 ^ device) % 2 == 1 then vector - 2 ^ device else vector

abbrev pub passing : Platform → ℕ → ℕ → ℕ → Option ℕ
passing platform one other vector = if is_own platform one other then Some (clear_bit vector (device_of other)) else None

-- another port of the same switch
abbrev pub if_beside : ℕ → ℕ → Option ℕ
if_beside one other = if (bus_of other == bus_of one) && not (other == one) then Some other else None

abbrev pub sibling_of : DumpText → Tree → List LeftOut → ℕ → Device → Option ℕ
sibling_of dump tree left_out one device = place_of dump tree left_out device >>= if_beside one

abbrev pub with_other : Platform → ℕ → ℕ → Bool → Option ℕ → Option ℕ
with_other platform one vector lets None = Some vector
with_other platform one vector lets (Some other) = if lets then passing platform one other vector else Some vector

-- the vector once this device was looked at
unfoldable pub with_sibling : DumpText → Tree → Imported → List ℕ → ℕ → ℕ → Device → Option ℕ
with_sibling dump tree made bytes one vector device =
    with_other made.layout.platform one vector (lets_through bytes (space_of dump device)) (sibling_of dump tree made.left_out one device)

abbrev pub with_siblings : DumpText → Tree → Imported → List ℕ → ℕ → ℕ → List Device → Option ℕ
with_siblings dump tree made bytes one vector [] = Some vector
with_siblings dump tree made bytes one vector (device ∷ rest) =
    option_and_then (λ next. with_siblings dump tree made bytes one next rest) (with_sibling dump tree made bytes one vector device)

-- the vector of a port that controls egress, if the layout can say it
abbrev pub vector_of : DumpText → Tree → Imported → List ℕ → ℕ → Option EgressText
vector_of dump tree made bytes one =
    option_map (λ vector. record { port = one; vector = vector }) (with_siblings dump tree made bytes one 0xffff_ffff dump.devices)

-- that of a device, if it is such a port
unfoldable pub vectors_among : DumpText → Tree → Imported → Device → Option EgressText
vectors_among dump tree made device =
    if sets_egress (space_of dump device)
    then option_and_then (vector_of dump tree made (space_of dump device)) (place_of dump tree made.left_out device) else None

-- the vectors that the layout can say: each lets requests through to ports of the same owner alone that have a function
-- directly below
abbrev pub vectors_of : DumpText → Tree → Imported → List EgressText
vectors_of dump tree made = filter_map (vectors_among dump tree made) dump.devices
