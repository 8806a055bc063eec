-- Between which workers rings lead, by their names.
use Rattle.std.specs.Prelude.{◌≡◌, ℕ, List, [], ◌∷◌, ◌++◌, Contains, map, Option, Some, None}
use Rattle.std.specs.List.{flat_map}
use Rattle.platform.specs.declared.parts.Switch.{Switch}
use Rattle.platform.specs.declared.parts.DownstreamPort.{DownstreamPort}
use Rattle.platform.specs.declared.parts.EndpointFunction.{EndpointFunction}
use Rattle.platform.specs.Platform.{Platform}
use Rattle.platform.specs.Tree.{internal_bus, port_above, port_leading_to}
use Rattle.topology.specs.Nodes.{ports_on}
use Rattle.thread_crew.specs.declared.worker_id.WorkerId.{WorkerId}
use Rattle.thread_crew.specs.declared.worker_id.WorkerId.TheVariants.{Host}
use Rattle.thread_plan.specs.declared.route.Route.{Route}
use Rattle.thread_plan.specs.Workers.{downstream_worker, function_worker, number_of, upstream_worker, workers_of}

abbrev pub route : WorkerId → WorkerId → Route
route from to = record { from = from; to = to }

-- the other way
abbrev pub back : Route → Route
back r = route r.to r.from

-- ---- links

-- what hangs below no port hangs below the root port
abbrev pub worker_above : Option DownstreamPort → WorkerId
worker_above None = Host
worker_above (Some port) = downstream_worker port

-- up the link of a switch, and up that of a function
abbrev pub up_from_switch : Platform → Switch → Route
up_from_switch platform switch = route (upstream_worker switch) (worker_above (port_above platform.ports switch))

abbrev pub up_from_function : Platform → EndpointFunction → Route
up_from_function platform function = route (function_worker function) (worker_above (port_leading_to platform.ports function.id))

abbrev pub up_routes : Platform → List Route
up_routes platform = map (up_from_switch platform) platform.switches ++ map (up_from_function platform) platform.functions

abbrev pub both_ways : Route → List Route
both_ways up = up ∷ back up ∷ []

-- of each link first the way up and then the way down: so packets go
abbrev pub link_routes : Platform → List Route
link_routes platform = flat_map both_ways (up_routes platform)

-- credits go from the receiver of packets to their sender
abbrev pub credit_routes : Platform → List Route
credit_routes platform = map back (link_routes platform)

-- ---- ports of a switch

-- The ports of a switch: the upstream port, out of which leads lane 0, and the downstream ports, out of which the lanes from
-- 1 on lead.
abbrev pub lanes_of : Platform → Switch → List WorkerId
lanes_of platform switch = upstream_worker switch ∷ map downstream_worker (ports_on platform.ports (internal_bus switch))

-- the worker of this number is that of a port of this switch
pub record IsPortOf (platform : Platform) (switch : Switch) (worker : WorkerId) (number : ℕ) : Type 0 where
  pub listed : Contains platform.switches switch
  pub lane : Contains (lanes_of platform switch) worker
  pub numbered : number_of (workers_of platform) worker ≡ Some number

-- from one port to each of its switch, and from each to one
abbrev pub routes_from : List WorkerId → WorkerId → List Route
routes_from lanes from = map (route from) lanes

abbrev pub routes_into : List WorkerId → WorkerId → List Route
routes_into lanes to = map (λ from. route from to) lanes

-- from each port of a switch to each, itself too
abbrev pub routes_between : List WorkerId → List Route
routes_between lanes = flat_map (routes_from lanes) lanes

abbrev pub switch_routes : Platform → Switch → List Route
switch_routes platform switch = routes_between (lanes_of platform switch)

abbrev pub pair_routes : Platform → List Route
pair_routes platform = flat_map (switch_routes platform) platform.switches
