use Rattle.std.proofs.Common.{◌≡◌, ◌∙◌, ◌+◌, ◌<◌, ℕ, List, Some, ap, arith, get_or, length, map, subst, sym}
use Rattle.std.specs.Prelude.{option_map}
use Rattle.std.proofs.lemmas.List.{get_or_read}
use Rattle.std.specs.Vec.{with_items}
use Rattle.lane.specs.Lanes.{eligible}
use Rattle.link.specs.Channels.{Channel, is_full}
use Rattle.link.specs.Simplexes.{SimplexView}
use Rattle.port.specs.Turns.{PortView}
use Rattle.topology.specs.declared.places.PortPlace.{PortPlace}
use Rattle.interconnect.specs.Kept.{interconnect_view}
use Rattle.interconnect.specs.Moves.{channel_at}
use Rattle.interconnect.specs.Passes.{no_place, no_port}
use Rattle.interconnect.specs.Views.{channels_of}
use Rattle.interconnect.proofs.Reaching.{many}
use Rattle.interconnect.proofs.Turning.{nodes_whole}
use Rattle.interconnect.proofs.Waiting.{kept_nodes, known_at, lane_there, waits_is, with_known}
use Rattle.interconnect.proofs.interconnect.Interconnect.waits.Goals as goal

pub lane_for-requires : goal.lane_for-requires
lane_for-requires c =
    let less : c.in-Some.index < length c.self.inside.ports.items = (let within = c.in-Some.ensures.within in let same = c.self.invariant.kept.many in omega (arith, within, same)) in
    known_at c.self.inside.bridge c.self.inside.ports.items c.self.inside.courses.items c.self.invariant.courses c.in-Some.index c.index_mut-known.result.now c.index.result.now less c.index_mut-known.ensures.value c.index.ensures

pub invariant_of-self-in_default-lane_for : goal.invariant_of-self-in_default-lane_for
invariant_of-self-in_default-lane_for c =
    let less : c.in-Some.index < length c.self.inside.ports.items = (let within = c.in-Some.ensures.within in let same = c.self.invariant.kept.many in omega (arith, within, same)) in
    let lengths : map many c.head_at.new.nodes ≡ map many c.self.inside.nodes.items = c.head_at.ensures.outputs ∙ ap (map many) c.deref_mut.ensures.value in record {
      kept = kept_nodes (interconnect_view c.self.inside) _ c.self.invariant.kept (ap (map many) (nodes_whole c.self.inside.nodes c.head_at.new.nodes lengths) ∙ lengths);
      courses = with_known c.self.inside.bridge c.self.inside.ports.items c.self.inside.courses.items c.self.invariant.courses c.in-Some.index c.lane_for.new.known c.index.result.now less c.index.ensures c.lane_for.ensures.known;
    }

-- the tree has as many outputs at the node as the port has ways out
pub is_full_at-requires : goal.is_full_at-requires
is_full_at-requires c =
    let less : c.in-Some.index < length c.self.inside.ports.items = (let within = c.in-Some.ensures.within in let same = c.self.invariant.kept.many in omega (arith, within, same)) in
    let first : map many c.head_at.new.nodes ≡ map many c.self.inside.nodes.items = c.head_at.ensures.outputs ∙ ap (map many) c.deref_mut.ensures.value in
    let nodes : map many c.deref_mut-2.result.now ≡ c.self.inside.topology.outputs = ap (map many) c.deref_mut-2.ensures.value ∙ (ap (map many) (nodes_whole c.self.inside.nodes c.head_at.new.nodes first) ∙ (first ∙ c.self.invariant.kept.outputs)) in
    let i = c.in-Some.index in
    let place = c.index-places-index.result in
    let port = c.index.result.now in
    let at : place ≡ get_or c.self.inside.topology.places i place = subst (λ (ps : List PortPlace). place ≡ get_or ps i place) c.places.ensures.value c.index-places-index.is in
    let fits = c.self.invariant.kept.fit i place port less in
    let ways : get_or c.self.inside.topology.outputs place.node 0 ≡ length port.config.exits + 1 = ap (λ (p : PortPlace). get_or c.self.inside.topology.outputs p.node 0) at ∙ (fits.ways ∙ ap (λ (p : PortView). length p.config.exits + 1) (sym c.index.ensures)) in
    subst (λ (outs : List ℕ). (place.node < length outs) × (c.in-Some-lane_for.output < get_or outs place.node 0)) (sym nodes)
    (lane_there c.self.inside.topology.outputs place.node c.in-Some-lane_for.output (length port.config.exits) ways c.in-Some-lane_for.ensures.within)

pub invariant_of-self-2 : goal.invariant_of-self-2
invariant_of-self-2 c =
    let less : c.in-Some.index < length c.self.inside.ports.items = (let within = c.in-Some.ensures.within in let same = c.self.invariant.kept.many in omega (arith, within, same)) in
    let nodes = with_items c.self.inside.nodes c.head_at.new.nodes in
    let first : map many c.head_at.new.nodes ≡ map many c.self.inside.nodes.items = c.head_at.ensures.outputs ∙ ap (map many) c.deref_mut.ensures.value in
    let whole = nodes_whole c.self.inside.nodes c.head_at.new.nodes first in
    let second : map many c.is_full_at.new.nodes ≡ map many nodes.items = c.is_full_at.ensures.outputs ∙ ap (map many) c.deref_mut-2.ensures.value in record {
      kept = kept_nodes (interconnect_view c.self.inside) _ c.self.invariant.kept (ap (map many) (nodes_whole nodes c.is_full_at.new.nodes second) ∙ (second ∙ (ap (map many) whole ∙ first)));
      courses = with_known c.self.inside.bridge c.self.inside.ports.items c.self.inside.courses.items c.self.invariant.courses c.in-Some.index c.lane_for.new.known c.index.result.now less c.index.ensures c.lane_for.ensures.known;
    }

pub returns-clause-value : goal.returns-clause-value
returns-clause-value c =
    let less : c.in-Some.index < length c.self.inside.ports.items = (let within = c.in-Some.ensures.within in let same = c.self.invariant.kept.many in omega (arith, within, same)) in
    let first : map many c.head_at.new.nodes ≡ map many c.self.inside.nodes.items = c.head_at.ensures.outputs ∙ ap (map many) c.deref_mut.ensures.value in
    let whole = nodes_whole c.self.inside.nodes c.head_at.new.nodes first in
    let nodes = c.self.inside.nodes.items in
    let i = c.in-Some.index in
    let place = c.index-places-index.result in
    let port = c.index.result.now in
    let same : channels_of c.deref_mut-2.result.now ≡ channels_of nodes = ap channels_of (c.deref_mut-2.ensures.value ∙ whole) ∙ (c.head_at.ensures.same ∙ ap channels_of c.deref_mut.ensures.value) in
    let at : place ≡ get_or c.self.inside.topology.places i place = subst (λ (ps : List PortPlace). place ≡ get_or ps i place) c.places.ensures.value c.index-places-index.is in
    let there : place ≡ get_or c.self.inside.topology.places i no_place = get_or_read c.self.inside.topology.places i place (let many = c.self.invariant.kept.many in omega (arith, less, many)) at no_place in
    let found : Some c.in-Some-head_at.head ≡ option_map (λ taken. taken.0.head) (eligible c.args.class (channel_at (channels_of nodes) c.in-Some-input.input).ingress) =
    c.in-Some-head_at.ensures.found ∙ ap (λ (ns : List (List SimplexView)). option_map (λ taken. taken.0.head) (eligible c.args.class (channel_at (channels_of ns) c.in-Some-input.input).ingress)) c.deref_mut.ensures.value in
    rw (← c.self.view_is)
    (c.is_full_at.ensures.full
    ∙ (ap (λ (cs : List (List Channel)). is_full c.args.class (channel_at cs (record { node = place.node; output = c.in-Some-lane_for.output }))) same
    ∙ waits_is c.self.inside.topology c.self.inside.bridge (channels_of nodes) c.self.inside.ports.items c.args.id c.args.class i place port c.in-Some-input.input c.in-Some-head_at.head c.in-Some-lane_for.output c.in-Some.ensures.value there
    (get_or_read c.self.inside.ports.items i port less c.index.ensures no_port) c.in-Some-input.is found c.in-Some-lane_for.ensures.value))
