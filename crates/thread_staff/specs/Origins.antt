-- Whose injectors there are.
use Rattle.std.specs.Prelude.{ℕ, ◌++◌, List, map, Option}
use Rattle.std.specs.List.{position}
use Rattle.fab_types.specs.Origins.{same_origin}
use Rattle.fab_types.specs.declared.origin.Origin.{Origin}
use Rattle.fab_types.specs.declared.origin.Origin.TheVariants.{Function}
use Rattle.injector.specs.declared.injector.Injector.{Injector}
use Rattle.outboxes.specs.Outboxes.{host_boxes}
use Rattle.platform.specs.Platform.{Platform}
use Rattle.platform.specs.declared.parts.EndpointFunction.{EndpointFunction}

abbrev pub origins_in : List Injector → List Origin
origins_in injectors = map (λ injector. injector.origin) injectors

abbrev pub function_origin : EndpointFunction → Origin
function_origin function = Function function.id

-- each function of a layout, in the order of its lines, and then the host of each domain that owns a port, by rising number
abbrev pub origins_of : Platform → List Origin
origins_of platform = map function_origin platform.functions ++ map (λ outbox. outbox.origin) (host_boxes platform 31)

-- the place of an origin among these, if it is one of them
abbrev pub origin_place : List Origin → Origin → Option ℕ
origin_place origins origin = position (λ other. same_origin other origin) origins
