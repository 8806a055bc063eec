use Rattle.std.proofs.Common.{◌≡◌, ◌++◌, ◌∷◌, [], List, None, cond}
use Rattle.std.specs.Prelude.{is_ok}
use Rattle.platform.specs.declared.parts.DownstreamPort.{DownstreamPort}
use Rattle.platform.specs.Platform.{Platform}
use Rattle.layout.specs.Laws.{IsPlatform}
use Rattle.layout.specs.Layouts.{platform_of}
use Rattle.layout.specs.Rules.{port_fault}
use Rattle.layout.specs.Additions.{port_line}
use Rattle.layout.proofs.Keeping.{keeps-port, kept-either}
use Rattle.layout.proofs.layout.Layout.take_port.Goals as goal

pub invariant_of-self : goal.invariant_of-self
invariant_of-self c =
    let p : Platform = platform_of c.self.inside in
    let good : None ≡ port_fault p c.args.port.now = cc (c.self.view_is, c.in_default.ensures.value) in
    let items : c.push.new.self.items ≡ cond (is_ok c.push.result) (p.ports ++ port_line c.args.port.now ∷ []) p.ports = rw c.port_line.ensures.value at c.push.ensures.items in
    record {
      platform = kept-either IsPlatform (is_ok c.push.result) p.ports (p.ports ++ port_line c.args.port.now ∷ []) c.push.new.self.items (λ (xs : List DownstreamPort). record p { ports = xs }) items c.self.invariant.platform (keeps-port p c.args.port.now c.self.invariant.platform c.port_line.ensures.low good);
      places = record { apart = c.self.invariant.places.apart; top = c.self.invariant.places.top; functions = c.self.invariant.places.functions };
    }
