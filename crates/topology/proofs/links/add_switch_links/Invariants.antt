use Rattle.std.proofs.Common.{◌≡◌, ◌++◌, map, take}
use Rattle.topology.specs.Links.{link_of_switch}
use Rattle.topology.proofs.links.add_switch_links.Given as goal

abbrev pub invariant-loop-switch : goal.invariant-loop-switch
invariant-loop-switch l = l.links.items ≡ l.initial.links.items ++ map (link_of_switch l.layout) (take l.switch-index l.switch-items)
