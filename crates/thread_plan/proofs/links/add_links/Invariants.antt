use Rattle.std.proofs.Common.{◌≡◌, ◌++◌, take}
use Rattle.std.specs.List.{flat_map}
use Rattle.thread_plan.specs.Routes.{both_ways}
use Rattle.thread_plan.proofs.links.add_links.Given as goal

abbrev pub invariant-loop-up : goal.invariant-loop-up
invariant-loop-up l = l.routes.items ≡ l.initial.routes.items ++ flat_map both_ways (take l.up-index l.ups)
