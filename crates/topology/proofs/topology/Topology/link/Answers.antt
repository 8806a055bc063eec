use Rattle.std.proofs.Common.{ap, ◌∙◌}
use Rattle.fab_types.specs.Id.{bus_of}
use Rattle.topology.specs.Topologies.{Tree}
use Rattle.topology.proofs.Indexed.{found_from_key}
use Rattle.topology.proofs.topology.Topology.link.Goals as goal

pub returns : goal.returns
returns c =
    c.copied.ensures ∙ c.find_link.ensures
    ∙ found_from_key bus_of (λ link. link.lower) c.args.self.now.links c.args.lower c.first_link_on-start.result c.bus.result c.bus.ensures c.first_link_on-start.ensures.value
    c.deref.result.now (c.deref.ensures.value ∙ ap (λ (t : Tree). t.links) c.self.view_is)
