use Rattle.std.proofs.Common.{◌≡◌, ◌++◌, ◌∷◌, [], List, None, cond}
use Rattle.std.specs.Prelude.{is_ok}
use Rattle.platform.specs.declared.parts.Switch.{Switch}
use Rattle.platform.specs.Platform.{Platform}
use Rattle.layout.specs.Laws.{IsPlatform}
use Rattle.layout.specs.Places.{IsWellPlaced}
use Rattle.layout.specs.Layouts.{platform_of}
use Rattle.layout.specs.Rules.{root_fault}
use Rattle.layout.specs.Additions.{root_line}
use Rattle.layout.proofs.Keeping.{keeps-root, kept-either}
use Rattle.layout.proofs.Places.{places-root}
use Rattle.layout.proofs.layout.Layout.take_root.Goals as goal

pub invariant_of-self : goal.invariant_of-self
invariant_of-self c =
    let p : Platform = platform_of c.self.inside in
    let good : None ≡ root_fault p c.args.id = cc (c.self.view_is, c.in_default.ensures) in
    let items : c.push.new.self.items ≡ cond (is_ok c.push.result) (p.switches ++ root_line c.args.id ∷ []) p.switches = c.push.ensures.items in
    record {
      platform = kept-either IsPlatform (is_ok c.push.result) p.switches (p.switches ++ root_line c.args.id ∷ []) c.push.new.self.items (λ (xs : List Switch). record p { switches = xs }) items c.self.invariant.platform (keeps-root p c.args.id c.self.invariant.platform good);
      places = kept-either IsWellPlaced (is_ok c.push.result) p.switches (p.switches ++ root_line c.args.id ∷ []) c.push.new.self.items (λ (xs : List Switch). record p { switches = xs }) items c.self.invariant.places (places-root p c.args.id c.self.invariant.places good);
    }
