-- The workers at the ends of links: as `topology` numbers nodes and their outputs.
use Rattle.std.specs.Prelude.{List, [], ◌∷◌, ◌++◌, map, slice_get, Option, option_and_then}
use Rattle.platform.specs.declared.parts.EndpointFunction.{EndpointFunction}
use Rattle.platform.specs.Platform.{Platform}
use Rattle.topology.specs.declared.nodes.LinkEnd.{LinkEnd}
use Rattle.thread_crew.specs.declared.worker_id.WorkerId.{WorkerId}
use Rattle.thread_crew.specs.declared.worker_id.WorkerId.TheVariants.{Host}
use Rattle.thread_plan.specs.Routes.{lanes_of}
use Rattle.thread_plan.specs.Workers.{function_worker}

abbrev pub alone : EndpointFunction → List WorkerId
alone function = function_worker function ∷ []

-- the workers at the outputs of each node: of the host, the switches and the functions
abbrev pub node_workers : Platform → List (List WorkerId)
node_workers platform = (Host ∷ []) ∷ (map (lanes_of platform) platform.switches ++ map alone platform.functions)

-- the worker that sends from an end of a link, if there is such an end
abbrev pub worker_at : Platform → LinkEnd → Option WorkerId
worker_at platform end = option_and_then (λ outputs. slice_get outputs end.output) (slice_get (node_workers platform) end.node)
