-- The workers of a layout's fabric, by name: each port of a switch has one, each function, and the host
-- (PCIe 4.0, 1.3).
use Rattle.std.specs.Prelude.{ℕ, ◌==◌, Bool, true, false, List, [], ◌∷◌, ◌++◌, map, Option}
use Rattle.std.specs.List.{position}
use Rattle.platform.specs.declared.parts.Switch.{Switch}
use Rattle.platform.specs.declared.parts.DownstreamPort.{DownstreamPort}
use Rattle.platform.specs.declared.parts.EndpointFunction.{EndpointFunction}
use Rattle.platform.specs.Platform.{Platform}
use Rattle.thread_crew.specs.declared.worker_id.WorkerId.{WorkerId}
use Rattle.thread_crew.specs.declared.worker_id.WorkerId.TheVariants.{Port, Function, Host, Monitor}

-- of the upstream port of a switch
abbrev pub upstream_worker : Switch → WorkerId
upstream_worker switch = Port switch.id

abbrev pub downstream_worker : DownstreamPort → WorkerId
downstream_worker port = Port port.id

abbrev pub function_worker : EndpointFunction → WorkerId
function_worker function = Function function.id

-- Upstream ports, downstream ports and functions, each in the order of the layout's lines, and the host. A worker's
-- number is its place here.
abbrev pub workers_of : Platform → List WorkerId
workers_of platform = map upstream_worker platform.switches ++ map downstream_worker platform.ports ++ map function_worker platform.functions ++ (Host ∷ [])

abbrev pub same_worker : WorkerId → WorkerId → Bool
same_worker (Port one) (Port other) = one == other
same_worker (Function one) (Function other) = one == other
same_worker Host Host = true
same_worker Monitor Monitor = true
same_worker one other = false

-- the place of the worker of this name, if there is one
abbrev pub number_of : List WorkerId → WorkerId → Option ℕ
number_of workers worker = position (same_worker worker) workers
