use Rattle.std.proofs.Common.{◌≡◌, List, None, length, map, subst, sym, ap, ◌∙◌}
use Rattle.std.proofs.lemmas.List.{length-map, with_items_is}
use Rattle.platform.specs.declared.parts.DownstreamPort.{DownstreamPort}
use Rattle.platform.specs.Platform.{Platform}
use Rattle.layout.specs.Additions.{with_vector}
use Rattle.layout.specs.Laws.{IsPlatform}
use Rattle.layout.specs.Layouts.{platform_of}
use Rattle.layout.specs.Rules.{egress_fault}
use Rattle.layout.proofs.Keeping.{keeps-egress}
use Rattle.layout.proofs.layout.Layout.take_egress.Goals as goal

pub invariant_of-self : goal.invariant_of-self
invariant_of-self c =
    let p : Platform = platform_of c.self.inside in
    let good : None ≡ egress_fault p c.args.egress.now = cc (c.self.view_is, c.in_default.ensures) in
    let given : c.give_vector.new.ports ≡ map (with_vector c.args.egress.now) p.ports = cc (c.give_vector.ensures, c.as_mut_slice.ensures.value) in
    let long : length c.give_vector.new.ports ≡ c.self.inside.ports.len = ap length given ∙ length-map p.ports (with_vector c.args.egress.now) ∙ sym c.self.inside.ports.ok.0 in
    let items = with_items_is c.self.inside.ports c.give_vector.new.ports long ∙ given in
    record {
      platform = subst (λ (ports : List DownstreamPort). IsPlatform (record p { ports = ports })) (sym items) (keeps-egress p c.args.egress.now c.self.invariant.platform good);
      places = record { apart = c.self.invariant.places.apart; top = c.self.invariant.places.top; functions = c.self.invariant.places.functions };
    }
