use Rattle.std.proofs.Common.{ℕ, List, sym, subst, ap, ◌∙◌}
use Rattle.topology.specs.declared.links.Link.{Link}
use Rattle.topology.specs.declared.places.PortPlace.{PortPlace}
use Rattle.topology.specs.FirstIndexes.{firsts_of, link_buses, place_slots}
use Rattle.topology.specs.Links.{links_of}
use Rattle.topology.specs.Nodes.{outputs_of}
use Rattle.topology.specs.Topologies.{IsTree, Tree}
use Rattle.topology.proofs.Soundness.{sound}
use Rattle.topology.proofs.topology.Topology.new.Goals as goal

pub invariant_of-result : goal.invariant_of-result
invariant_of-result c =
    let platform = c.args.layout.now in
    record {
      sound =
          subst (λ (l : List ℕ). IsTree (record { outputs = l; links = c.in_ok-links.links.items; places = c.in_ok-places.places.items })) (sym c.in_ok-outputs_of.ensures)
          (subst (λ (l : List Link). IsTree (record { outputs = outputs_of platform; links = l; places = c.in_ok-places.places.items })) (sym c.in_ok-links.ensures)
          (subst (λ (l : List PortPlace). IsTree (record { outputs = outputs_of platform; links = links_of platform; places = l })) (sym c.in_ok-places.ensures)
          (sound platform c.ports.ensures.laws)));
      links = c.in_ok-index_links.ensures ∙ ap (λ (l : List Link). firsts_of 256 (link_buses l)) c.deref.ensures.value;
      places = c.in_ok-index_places.ensures ∙ ap (λ (l : List PortPlace). firsts_of 8192 (place_slots l)) c.deref-2.ensures.value;
    }

abbrev tree : List ℕ → List Link → List PortPlace → Tree
tree outputs links places = record { outputs = outputs; links = links; places = places }

pub returns : goal.returns
returns c =
    ap (λ (l : List ℕ). tree l c.in_ok-links.links.items c.in_ok-places.places.items) c.in_ok-outputs_of.ensures
    ∙ ap (λ (l : List Link). tree (outputs_of c.args.layout.now) l c.in_ok-places.places.items) c.in_ok-links.ensures
    ∙ ap (λ (l : List PortPlace). tree (outputs_of c.args.layout.now) (links_of c.args.layout.now) l) c.in_ok-places.ensures
