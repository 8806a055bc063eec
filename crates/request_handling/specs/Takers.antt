-- Who takes a packet at a place, as far as this domain's journal may have to say so. A link is named by the ID at
-- its lower end, and the ingress of a direction is the queue of the one that takes what came that way.
use Rattle.std.specs.Prelude.{ℕ, ◌==◌, Bool, true, false, ◌&&◌, is_none, is_some, List, Option, Some, None, option_map, if◌then◌else◌}
use Rattle.std.specs.List.{list_any}
use Rattle.fab_types.specs.declared.place.Place.{Place}
use Rattle.fab_types.specs.declared.place.Place.TheVariants.{Outbox, Egress, Wire, Ingress}
use Rattle.fab_types.specs.declared.place.Way.{Way}
use Rattle.fab_types.specs.declared.place.Way.TheVariants.{Up, Down}
use Rattle.platform.specs.declared.parts.Switch.{Switch}
use Rattle.platform.specs.Owners.{is_own_function}
use Rattle.platform.specs.Share.{Share}
use Rattle.platform.specs.Tree.{is_switch, port_leading_to}
use Rattle.request_handling.specs.declared.taker.Taker.{Taker}
use Rattle.request_handling.specs.declared.taker.Taker.TheVariants.{Host, Function, Port, Upstream}

-- the switch below the root port
abbrev pub is_top : List Switch → ℕ → Bool
is_top switches id = list_any (λ switch. (switch.id == id) && is_none switch.above) switches

-- at the upper end of a link: the host above the top switch, a downstream port above anything else
abbrev pub taker_above : Share → ℕ → Option Taker
taker_above share id = if is_top share.switches id then Some Host else option_map Port (port_leading_to share.ports id)

-- at the lower end: a function of this domain, or the upstream port of a switch
abbrev pub taker_below : Share → ℕ → Option Taker
taker_below share id =
    if is_own_function share id then Some (Function id)
    else (if is_switch share.switches id then Some Upstream
    else None)

abbrev pub taker_on : Share → ℕ → Way → Option Taker
taker_on share id Up = taker_above share id
taker_on share id Down = taker_below share id

-- nobody takes what still waits to be sent, or is on the link, and no other domain's function is this domain's
abbrev pub taker_of : Share → Place → Option Taker
taker_of share (Outbox origin) = None
taker_of share (Egress direction) = None
taker_of share (Wire direction) = None
taker_of share (Ingress direction) = taker_on share direction.lower direction.way

-- is it a port, and neither the host nor a function?
abbrev pub is_port : Option Taker → Bool
is_port None = false
is_port (Some Host) = false
is_port (Some (Function function)) = false
is_port (Some (Port port)) = true
is_port (Some Upstream) = true

-- does a port take what waits there?
abbrev pub is_at_port : Share → Place → Bool
is_at_port share place = is_port (taker_of share place)

-- may an entry of this domain say that an alien packet was taken there?
abbrev pub takes : Share → Place → Bool
takes share place = is_some (taker_of share place)
