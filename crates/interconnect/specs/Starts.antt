-- An interconnect at its start: nothing waits, and each sender has the credits that the layout gives its link.
use Rattle.std.specs.Prelude.{ℕ, ◌<◌, List, [], ◌∷◌, ◌++◌, map, Option, Some, None}
use Rattle.fab_types.specs.Id.{id_of}
use Rattle.credit.specs.Limits.{zero_counters}
use Rattle.credit.specs.declared.counters.Counters.{Counters}
use Rattle.platform.specs.declared.parts.CreditLimits.{CreditLimits}
use Rattle.platform.specs.declared.parts.EndpointFunction.{EndpointFunction}
use Rattle.platform.specs.declared.parts.Switch.{Switch}
use Rattle.platform.specs.Platform.{Platform}
use Rattle.platform.specs.Tree.{id_below, internal_bus}
use Rattle.layout.specs.Views.{credits_of}
use Rattle.link.specs.Simplexes.{SimplexView}
use Rattle.port.specs.Configs.{Config, downstream_config, upstream_config}
use Rattle.port.specs.Turns.{PortView}
use Rattle.bridge.specs.Bridges.{of_platform}
use Rattle.topology.specs.Nodes.{ports_on}
use Rattle.topology.specs.Topologies.{tree_of}
use Rattle.interconnect.specs.Views.{InterconnectView, unused}

-- a receiver may advertise these: less than half of what its counters hold
pub record AreFew (limits : CreditLimits) : Type 0 where
  pub posted_headers : limits.posted_headers < 128
  pub posted_data : limits.posted_data < 2048
  pub non_posted_headers : limits.non_posted_headers < 128
  pub non_posted_data : limits.non_posted_data < 2048
  pub completion_headers : limits.completion_headers < 128
  pub completion_data : limits.completion_data < 2048

abbrev pub counters_of : CreditLimits → Counters
counters_of limits = record {
  posted = record { headers = limits.posted_headers; payload = limits.posted_data };
  non_posted = record { headers = limits.non_posted_headers; payload = limits.non_posted_data };
  completion = record { headers = limits.completion_headers; payload = limits.completion_data };
}

abbrev pub first_credits : Option CreditLimits → Counters
first_credits None = zero_counters
first_credits (Some limits) = counters_of limits

-- either direction of the link with this lower end; below a port without a link no credits are ever there
abbrev pub unused_below : Platform → ℕ → SimplexView
unused_below platform lower = unused (first_credits (credits_of platform lower))

abbrev pub host_outputs : Platform → List SimplexView
host_outputs platform = unused_below platform (id_of 1 0 0) ∷ []

abbrev pub switch_outputs : Platform → Switch → List SimplexView
switch_outputs platform switch = unused_below platform switch.id ∷ map (λ port. unused_below platform (id_below port)) (ports_on platform.ports (internal_bus switch))

abbrev pub function_outputs : Platform → EndpointFunction → List SimplexView
function_outputs platform function = unused_below platform function.id ∷ []

abbrev pub nodes_of : Platform → List (List SimplexView)
nodes_of platform = host_outputs platform ∷ (map (switch_outputs platform) platform.switches ++ map (function_outputs platform) platform.functions)

-- a port that holds nothing
abbrev pub idle_port : Config → PortView
idle_port config = record { config = config; held = None; kept = None; strays = [] }

abbrev pub ports_of : Platform → List PortView
ports_of platform = map (λ switch. idle_port (upstream_config platform switch)) platform.switches ++ map (λ port. idle_port (downstream_config platform port)) platform.ports

abbrev pub start_of : Platform → InterconnectView
start_of platform = record { tree = tree_of platform; routes = of_platform platform; nodes = nodes_of platform; ports = ports_of platform }
