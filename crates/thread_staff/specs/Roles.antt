-- Who works for what in the fabric of a layout.
use Rattle.std.specs.Prelude.{ℕ, List, [], ◌∷◌, ◌++◌, map}
use Rattle.bridge.specs.Bridges.{Routes, of_platform}
use Rattle.thread_crew.specs.declared.worker_id.WorkerId.{WorkerId}
use Rattle.thread_crew.specs.declared.worker_id.WorkerId.TheVariants as worker
use Rattle.domains.specs.Domains.{starting_domains}
use Rattle.thread_plan.specs.Workers.{downstream_worker, function_worker, upstream_worker}
use Rattle.platform.specs.Owners.{domain_above}
use Rattle.platform.specs.Platform.{Platform}
use Rattle.platform.specs.Share.{Share}
use Rattle.platform.specs.declared.parts.DownstreamPort.{DownstreamPort}
use Rattle.platform.specs.declared.parts.EndpointFunction.{EndpointFunction}
use Rattle.platform.specs.declared.parts.Switch.{Switch}
use Rattle.port.specs.Configs.{Config, downstream_config, upstream_config}
use Rattle.thread_staff.specs.Kept.{OfFunction, OfPort, OfHost, Role}

-- the numbers of the domains, and what the layout gives each
abbrev pub starting_numbers : Platform → List ℕ
starting_numbers platform = map (λ d. d.share.domain) (starting_domains platform)

abbrev pub starting_shares : Platform → List Share
starting_shares platform = map (λ d. d.share) (starting_domains platform)

abbrev pub port_role : WorkerId → Config → Routes → Role
port_role id config routes = record { id = id; duty = OfPort config routes }

abbrev pub upstream_role : Platform → Switch → Role
upstream_role platform switch = port_role (upstream_worker switch) (upstream_config platform switch) (of_platform platform)

abbrev pub downstream_role : Platform → DownstreamPort → Role
downstream_role platform port = port_role (downstream_worker port) (downstream_config platform port) (of_platform platform)

abbrev pub function_role : Platform → EndpointFunction → Role
function_role platform function =
    record { id = function_worker function; duty = OfFunction function.id (domain_above platform.ports function.id) (of_platform platform) (starting_numbers platform) }

abbrev pub host_role : Platform → Role
host_role platform = record {
  id = worker.Host;
  duty = OfHost (record { shares = starting_shares platform; routes = of_platform platform; locks = starting_numbers platform });
}

-- upstream ports, downstream ports and functions, each in the order of the layout's lines, and the host
abbrev pub roles_of : Platform → List Role
roles_of platform =
    map (upstream_role platform) platform.switches ++ map (downstream_role platform) platform.ports ++ map (function_role platform) platform.functions
    ++ (host_role platform ∷ [])
