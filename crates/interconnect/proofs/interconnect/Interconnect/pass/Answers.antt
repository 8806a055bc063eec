use Rattle.std.proofs.Common.{◌≡◌, ◌<◌, arith, length, map, subst, ap, ◌∙◌}
use Rattle.interconnect.specs.Kept.{interconnect_view}
use Rattle.interconnect.proofs.Reaching.{many}
use Rattle.interconnect.proofs.Turning.{kept_with_port, nodes_whole, passes}
use Rattle.interconnect.proofs.Waiting.{with_port}
use Rattle.topology.specs.declared.places.PortPlace.{PortPlace}
use Rattle.std.proofs.Common.{List, get_or}
use Rattle.interconnect.proofs.interconnect.Interconnect.pass.Goals as goal

pub invariant_of-self : goal.invariant_of-self
invariant_of-self g c =
    let lengths = c.turn_at.ensures.lengths ∙ ap (map many) c.deref_mut.ensures.value in
    let less : c.in-Some.index < length c.self.inside.ports.items = (let within = c.in-Some.ensures.within in let same = c.self.invariant.kept.many in omega (arith, within, same)) in record {
      kept = kept_with_port (interconnect_view c.self.inside) _ c.turn_at.new.nodes c.in-Some.index c.index_mut.result.now c.turn_at.new.port c.self.invariant.kept (nodes_whole c.self.inside.nodes c.turn_at.new.nodes lengths) lengths
          c.in-Some.ensures.within c.index_mut.ensures.value c.turn_at.ensures.turned.config;
      courses = with_port c.self.inside.bridge c.self.inside.ports.items c.self.inside.courses.items c.self.invariant.courses c.in-Some.index c.index_mut.result.now c.turn_at.new.port less c.index_mut.ensures.value c.turn_at.ensures.turned.config;
    }

pub returns : goal.returns
returns g c =
    let lengths = c.turn_at.ensures.lengths ∙ ap (map many) c.deref_mut.ensures.value in
    rw (← c.self.view_is)
    (passes g.D.Desk.refuses g.D.Desk.unknown g.D.Desk.wants g.R.Reporter.is_sure c.args.class c.turn_at.result (g.D.Desk.known c.args.desk.now) (g.D.Desk.known c.turn_at.new.desk) (g.R.Reporter.reported c.args.reporter.now) (g.R.Reporter.reported c.turn_at.new.reporter)
    (interconnect_view c.self.inside) c.deref_mut.result.now _ c.turn_at.new.nodes c.in-Some.index c.index_mut.result.now c.turn_at.new.port c.args.id c.index-places-index.result c.in-Some-input.input c.self.invariant.kept
    c.in-Some.ensures.value
    c.in-Some.ensures.within
    (subst (λ (ps : List PortPlace). c.index-places-index.result ≡ get_or ps c.in-Some.index c.index-places-index.result) c.places.ensures.value c.index-places-index.is)
    c.in-Some-input.is c.deref_mut.ensures.value (nodes_whole c.self.inside.nodes c.turn_at.new.nodes lengths) c.index_mut.ensures.value c.turn_at.ensures.turned c.turn_at.ensures.channels)
