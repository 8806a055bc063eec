use Rattle.std.proofs.Common.{◌≡◌, ◌++◌, ◌∷◌, [], List, None, cond}
use Rattle.std.specs.Prelude.{is_ok}
use Rattle.platform.specs.declared.parts.Mapping.{Mapping}
use Rattle.platform.specs.Platform.{Platform}
use Rattle.layout.specs.Laws.{IsPlatform}
use Rattle.layout.specs.Layouts.{platform_of}
use Rattle.layout.specs.Rules.{map_fault}
use Rattle.layout.specs.Additions.{map_line}
use Rattle.layout.proofs.Keeping.{keeps-map, kept-either}
use Rattle.layout.proofs.layout.Layout.take_map.Goals as goal

pub invariant_of-self : goal.invariant_of-self
invariant_of-self c =
    let p : Platform = platform_of c.self.inside in
    let good : None ≡ map_fault p c.args.map.now = cc (c.self.view_is, c.in_default.ensures.value) in
    let items : c.push.new.self ≡ cond (is_ok c.push.result) (p.maps ++ map_line c.args.map.now ∷ []) p.maps = rw (c.target_of_text.ensures, c.rights_of_text.ensures) at c.push.ensures in
    record {
      platform = kept-either IsPlatform (is_ok c.push.result) p.maps (p.maps ++ map_line c.args.map.now ∷ []) c.push.new.self (λ (xs : List Mapping). record p { maps = xs }) items c.self.invariant.platform (keeps-map p c.args.map.now c.self.invariant.platform good);
      places = record { apart = c.self.invariant.places.apart; top = c.self.invariant.places.top; functions = c.self.invariant.places.functions };
    }
