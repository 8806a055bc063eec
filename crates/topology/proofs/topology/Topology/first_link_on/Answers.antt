use Rattle.std.proofs.Common.{◌==◌, ℕ, List, ◌∙◌, arith, ap, get_or, length}
use Rattle.fab_types.specs.Id.{bus_of}
use Rattle.topology.specs.FirstIndexes.{link_buses}
use Rattle.topology.proofs.Indexed.{first_within, indexed, many_firsts}
use Rattle.topology.proofs.topology.Topology.first_link_on.Goals as goal

pub first-requires : goal.first-requires
first-requires c =
    let many = ap (λ (firsts : List ℕ). length firsts) c.self.invariant.links ∙ many_firsts 256 (link_buses c.self.inside.links.items) in
    let small = c.ranges.bus.fits in let same = c.from.ensures in
    omega (arith, many, small, same)

pub returns-clause-value : goal.returns-clause-value
returns-clause-value c =
    rw (← c.self.view_is)
    (c.first.ensures ∙ ap (λ (key : ℕ). get_or c.self.inside.links_by_bus key 0) c.from.ensures ∙ ap (λ (firsts : List ℕ). get_or firsts c.args.bus 0) c.self.invariant.links
    ∙ indexed (λ link. bus_of link.lower) c.self.inside.links.items 256 c.args.bus c.ranges.bus.fits)

pub returns-clause-within : goal.returns-clause-within
returns-clause-within c =
    let value = returns-clause-value c in
    let within = first_within (λ link. bus_of link.lower == c.args.bus) c.args.self.now.links in
    omega (arith, value, within)
