use Rattle.std.proofs.Common.{◌≡◌, ◌++◌, map, take}
use Rattle.topology.specs.Links.{link_of_function}
use Rattle.topology.proofs.links.add_function_links.Given as goal

abbrev pub invariant-loop-function : goal.invariant-loop-function
invariant-loop-function l = l.links.items ≡ l.initial.links.items ++ map (link_of_function l.layout) (take l.function-index l.function-items)
