-- What the ports above a function do with its requests (PCIe 4.0, 6.12.1).
use Rattle.std.specs.Prelude.{ℕ, ◌&&◌, ◌||◌, Bool, false, not, List, Option, Some, None}
use Rattle.std.specs.List.{find, list_any}
use Rattle.fab_types.specs.Controls.{validates_source, blocks_translated, redirects_requests, controls_egress}
use Rattle.platform.specs.declared.parts.DownstreamPort.{DownstreamPort}
use Rattle.platform.specs.Egress.{holder_beside, lets_through}
use Rattle.platform.specs.Owners.{holds_address, holds_bus}

-- a port above what is on this bus validates sources
abbrev pub is_validated : List DownstreamPort → ℕ → Bool
is_validated ports bus = list_any (λ port. holds_bus port bus && validates_source port.controls) ports

-- a port above what is on this bus blocks translated addresses
abbrev pub is_blocked : List DownstreamPort → ℕ → Bool
is_blocked ports bus = list_any (λ port. holds_bus port bus && blocks_translated port.controls) ports

-- a request goes to this other port of the switch, if any: Egress Control lets it through, or nothing redirects or stops it
abbrev pub passes_to : DownstreamPort → Option DownstreamPort → Bool
passes_to port None = false
passes_to port (Some other) = lets_through port other.id || (not (redirects_requests port.controls) && not (controls_egress port.controls))

-- at this port a request of what is on the bus turns, for the address is below another port of the switch
abbrev pub is_turn : List DownstreamPort → ℕ → ℕ → DownstreamPort → Bool
is_turn ports bus address port = holds_bus port bus && not (holds_address port address) && passes_to port (holder_beside ports port address)

-- the port at which a request turns
abbrev pub turn_of : List DownstreamPort → ℕ → ℕ → Option DownstreamPort
turn_of ports bus address = find (is_turn ports bus address) ports

-- a port above what is on this bus, and not above this one, validates sources
abbrev pub is_validated_below : List DownstreamPort → ℕ → DownstreamPort → Bool
is_validated_below ports bus turn =
    list_any (λ port. holds_bus port bus && holds_bus turn port.secondary && validates_source port.controls) ports
