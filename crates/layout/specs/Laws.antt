-- What holds of every platform that was read.
use Rattle.std.specs.Prelude.{◌≡◌, ℕ, ◌+◌, ◌-◌, ◌%◌, ◌^◌, ◌==◌, ◌≤◌, Bool, true, false, ◌&&◌, not, nat_le, nat_lt, List, [], ◌∷◌, length, count_by, Option, Some, None}
use Rattle.std.specs.List.{list_all}
use Rattle.fab_types.specs.Id.{bus_of, id_of}
use Rattle.platform.specs.declared.parts.Switch.{Switch}
use Rattle.platform.specs.declared.parts.DownstreamPort.{DownstreamPort}
use Rattle.platform.specs.declared.parts.EndpointFunction.{EndpointFunction}
use Rattle.platform.specs.declared.parts.MapTarget.{MapTarget}
use Rattle.platform.specs.declared.parts.MapTarget.TheVariants as mapped
use Rattle.platform.specs.declared.parts.Mapping.{Mapping}
use Rattle.platform.specs.declared.parts.BudgetLine.{BudgetLine}
use Rattle.platform.specs.declared.parts.CreditLine.{CreditLine}
use Rattle.platform.specs.Platform.{Platform}
use Rattle.platform.specs.Owners.{is_function}
use Rattle.platform.specs.Tree.{port_at, port_leading_to, port_above, switch_on, id_below, is_switch, is_third_level, is_taken, domain_of}
use Rattle.layout.specs.Rules.{is_within, is_of_requester, is_mapping_of, lets_abroad}
use Rattle.platform.specs.Tables.{MapsOnce}
use Rattle.platform.specs.Tree.{is_on_bus}

abbrev pub is_good_budget : BudgetLine → Bool
is_good_budget line = is_within 1 16384 line.begins

abbrev pub is_good_credit : CreditLine → Bool
is_good_credit line =
    is_within 1 127 line.limits.posted_headers && is_within 16 2047 line.limits.posted_data
    && is_within 1 127 line.limits.non_posted_headers && is_within 16 2047 line.limits.non_posted_data
    && is_within 1 127 line.limits.completion_headers && is_within 16 2047 line.limits.completion_data

-- the limits
pub record HasLimits (platform : Platform) : Type 0 where
  pub frames : platform.frames ≤ 1024
  pub switches : length platform.switches ≤ 8
  pub ports : (bus : ℕ) → count_by (is_on_bus bus) platform.ports ≤ 8
  pub functions : length platform.functions ≤ 57
  pub maps : (requester : ℕ) → count_by (is_of_requester requester) platform.maps ≤ 64
  pub budgets : list_all is_good_budget platform.budgets ≡ true
  pub credits : list_all is_good_credit platform.credits ≡ true

-- each two elements of the list
abbrev pub each_pair : {X : Type 0} → (X → X → Bool) → List X → Bool
each_pair fit [] = true
each_pair fit (x ∷ xs) = list_all (fit x) xs && each_pair fit xs

-- two ports have different IDs; if they are ports of one switch, neither their buses nor their windows
-- meet
abbrev pub are_apart : DownstreamPort → DownstreamPort → Bool
are_apart one other =
    not (one.id == other.id)
    && not (is_on_bus (bus_of other.id) one && nat_le one.secondary other.subordinate && nat_le other.secondary one.subordinate)
    && not (is_on_bus (bus_of other.id) one && nat_le one.base other.limit && nat_le other.base one.limit)

-- a port's buses come after its own, and those and its window are inside those of the port above its
-- switch, whose owner it shares
abbrev pub is_inside : Option DownstreamPort → DownstreamPort → Bool
is_inside None port = nat_lt (bus_of port.id) port.secondary
is_inside (Some above) port =
    nat_lt (bus_of port.id) port.secondary && nat_le port.subordinate above.subordinate
    && (nat_le above.base port.base && nat_le port.limit above.limit) && (port.owner == above.owner)

abbrev pub is_nested_on : List DownstreamPort → Option Switch → DownstreamPort → Bool
is_nested_on ports None port = false
is_nested_on ports (Some switch) port = nat_le port.secondary port.subordinate && nat_lt port.base port.limit && is_inside (port_above ports switch) port

-- a port stands on the internal bus of a switch, inside the port above
abbrev pub is_nested : List Switch → List DownstreamPort → DownstreamPort → Bool
is_nested switches ports port = is_nested_on ports (switch_on switches (bus_of port.id)) port

abbrev pub has_domain : DownstreamPort → Bool
has_domain port = is_within 1 31 port.owner

-- addresses of windows have 32 bits
abbrev pub ends_low : DownstreamPort → Bool
ends_low port = nat_lt port.limit (2 ^ 32)

abbrev pub is_hung_below : Option DownstreamPort → Switch → Bool
is_hung_below None switch = false
is_hung_below (Some port) switch = (switch.id == id_below port) && nat_lt port.secondary port.subordinate

abbrev pub is_hung_by : List DownstreamPort → Option ℕ → Switch → Bool
is_hung_by ports None switch = switch.id == id_of 1 0 0
is_hung_by ports (Some above) switch = is_hung_below (port_at ports above) switch

-- a switch is the top one, 01:00.0, or stands directly below a port that has a bus left for its ports
abbrev pub is_hung : List DownstreamPort → Switch → Bool
is_hung ports switch = is_hung_by ports switch.above switch

abbrev pub is_level_below : List Switch → List DownstreamPort → Option DownstreamPort → Bool
is_level_below switches ports None = true
is_level_below switches ports (Some port) = not (is_third_level switches ports (bus_of port.id))

-- at most two switches stand above a switch
abbrev pub is_level : List Switch → List DownstreamPort → Switch → Bool
is_level switches ports switch = is_level_below switches ports (port_above ports switch)

abbrev pub is_placed_below : Option DownstreamPort → EndpointFunction → Bool
is_placed_below None function = false
is_placed_below (Some port) function = (function.bar % 4096 == 0) && (nat_le port.base function.bar && nat_le (function.bar + 4095) port.limit)

-- a function stands directly below a port, and its page is in that port's window
abbrev pub is_placed : List DownstreamPort → EndpointFunction → Bool
is_placed ports function = is_placed_below (port_leading_to ports function.id) function

-- does something stand directly below the port?
abbrev pub is_used : List Switch → List EndpointFunction → DownstreamPort → Bool
is_used switches functions port = is_taken switches functions (id_below port)

-- functions, and switches but the top one, stand alone below ports: there are no more of them than ports
-- with something below
abbrev pub AreAlone : List Switch → List DownstreamPort → List EndpointFunction → Type 0
AreAlone switches ports functions = length functions + (length switches - 1) ≤ count_by (is_used switches functions) ports

abbrev pub is_no_switch : List Switch → EndpointFunction → Bool
is_no_switch switches function = not (is_switch switches function.id)

abbrev pub is_known : List EndpointFunction → ℕ → MapTarget → Bool
is_known functions frames (mapped.Frame frame) = nat_lt frame frames
is_known functions frames (mapped.Peer peer) = is_function functions peer

-- a mapping is of a function, and leads to a frame that there is or to a function
abbrev pub is_known_map : List EndpointFunction → ℕ → Mapping → Bool
is_known_map functions frames line = is_function functions line.requester && is_known functions frames line.target

abbrev pub is_home_target : List DownstreamPort → ℕ → MapTarget → Bool
is_home_target ports domain (mapped.Frame frame) = true
is_home_target ports domain (mapped.Peer peer) = domain_of ports peer == domain

-- a mapping that leads to a function stays in its domain
abbrev pub is_home_map : List DownstreamPort → Mapping → Bool
is_home_map ports line = is_home_target ports (domain_of ports line.requester) line.target

abbrev pub is_own_frame : List DownstreamPort → Mapping → ℕ → MapTarget → Bool
is_own_frame ports one domain (mapped.Frame frame) = not (is_mapping_of frame one.target && not (domain_of ports one.requester == domain))
is_own_frame ports one domain (mapped.Peer peer) = true

-- two mappings of one frame are of one domain
abbrev pub share_no_frame : List DownstreamPort → Mapping → Mapping → Bool
share_no_frame ports one other = is_own_frame ports one (domain_of ports other.requester) other.target

-- requests that a port lets through to other ports of its switch stay with its owner, and find a function there
abbrev pub keeps_home : List EndpointFunction → List DownstreamPort → DownstreamPort → Bool
keeps_home functions ports port = not (lets_abroad functions ports port)

-- what holds of every platform
pub record IsPlatform (platform : Platform) : Type 0 where
  pub limits : HasLimits platform
  pub apart : each_pair are_apart platform.ports ≡ true
  pub nested : list_all (is_nested platform.switches platform.ports) platform.ports ≡ true
  pub owners : list_all has_domain platform.ports ≡ true  -- domains have the numbers 1 to 31
  pub windows : list_all ends_low platform.ports ≡ true
  pub hung : list_all (is_hung platform.ports) platform.switches ≡ true
  pub levels : list_all (is_level platform.switches platform.ports) platform.switches ≡ true
  pub placed : list_all (is_placed platform.ports) platform.functions ≡ true
  pub alone : AreAlone platform.switches platform.ports platform.functions
  pub free : list_all (is_no_switch platform.switches) platform.functions ≡ true  -- no function stands where a switch does
  pub known : list_all (is_known_map platform.functions platform.frames) platform.maps ≡ true
  pub home : list_all (is_home_map platform.ports) platform.maps ≡ true
  pub unshared : each_pair (share_no_frame platform.ports) platform.maps ≡ true
  pub mapped_once : MapsOnce platform.maps
  pub vectors : list_all (keeps_home platform.functions platform.ports) platform.ports ≡ true
