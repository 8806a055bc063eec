-- ACS P2P Egress Control (PCIe 4.0, 6.12.1.1 and 7.7.8.4). A vector has a bit for each port of the switch; that a port's number
-- there is its device number is this project's own.
use Rattle.std.specs.Prelude.{ℕ, ◌/◌, ◌%◌, ◌^◌, ◌==◌, Bool, true, false, ◌&&◌, not, List, [], ◌∷◌, Option, Some, None, if◌then◌else◌}
use Rattle.std.specs.List.{find}
use Rattle.fab_types.specs.Controls.{controls_egress}
use Rattle.fab_types.specs.Id.{bus_of, device_of}
use Rattle.platform.specs.declared.parts.DownstreamPort.{DownstreamPort}
use Rattle.platform.specs.Owners.{holds_address, holds_bus}
use Rattle.platform.specs.Tree.{id_below, is_on_bus}

-- the bit of a device; where no vector was given all bits are 1
abbrev pub has_bit : Option ℕ → ℕ → Bool
has_bit None device = true
has_bit (Some vector) device = (vector / 2 ^ device) % 2 == 1

-- a request from below the port may go directly to the other port of its switch that has this ID
abbrev pub lets_through : DownstreamPort → ℕ → Bool
lets_through port other = controls_egress port.controls && not (has_bit port.egress_vector (device_of other))

-- the port of the same switch whose window has the address
abbrev pub holder_beside : List DownstreamPort → DownstreamPort → ℕ → Option DownstreamPort
holder_beside ports port address = find (λ other. is_on_bus (bus_of port.id) other && holds_address other address) ports

-- ---- where a request goes that a port lets through: to the function below that other port

abbrev pub let_to : DownstreamPort → Option DownstreamPort → Option ℕ
let_to port None = None
let_to port (Some other) = if lets_through port other.id then Some (id_below other) else None

-- of a request for this address, which comes up to the port
abbrev pub direct_at : List DownstreamPort → ℕ → DownstreamPort → Option ℕ
direct_at ports address port = if holds_address port address then None else let_to port (holder_beside ports port address)

-- if the port is above this bus
abbrev pub direct_above : List DownstreamPort → ℕ → ℕ → DownstreamPort → Option ℕ
direct_above ports bus address port = if holds_bus port bus then direct_at ports address port else None

abbrev pub or_else : Option ℕ → Option ℕ → Option ℕ
or_else None other = other
or_else (Some function) other = Some function

abbrev pub direct_among : List DownstreamPort → ℕ → ℕ → List DownstreamPort → Option ℕ
direct_among ports bus address [] = None
direct_among ports bus address (port ∷ rest) = or_else (direct_above ports bus address port) (direct_among ports bus address rest)

-- by one of the ports above the function that sends it. At most one of them hasn't the address in its window while another
-- port of its switch has
abbrev pub direct_to : List DownstreamPort → ℕ → ℕ → Option ℕ
direct_to ports function address = direct_among ports (bus_of function) address ports

abbrev pub is_peer : ℕ → Option ℕ → Bool
is_peer function None = false
is_peer function (Some peer) = peer == function

-- does a request of the sender for this address go directly to this function?
abbrev pub goes_directly : List DownstreamPort → ℕ → ℕ → ℕ → Bool
goes_directly ports sender address function = is_peer function (direct_to ports sender address)
