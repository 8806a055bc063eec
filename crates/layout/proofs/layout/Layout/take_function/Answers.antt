use Rattle.std.proofs.Common.{◌≡◌, ◌++◌, ◌∷◌, [], List, None, cond}
use Rattle.std.specs.Prelude.{is_ok}
use Rattle.platform.specs.declared.parts.EndpointFunction.{EndpointFunction}
use Rattle.platform.specs.Platform.{Platform}
use Rattle.layout.specs.Laws.{IsPlatform}
use Rattle.layout.specs.Places.{IsWellPlaced}
use Rattle.layout.specs.Layouts.{platform_of}
use Rattle.layout.specs.Rules.{function_fault}
use Rattle.layout.specs.Additions.{function_line}
use Rattle.layout.proofs.Keeping.{keeps-function, kept-either}
use Rattle.layout.proofs.Places.{places-function}
use Rattle.layout.proofs.layout.Layout.take_function.Goals as goal

pub invariant_of-self : goal.invariant_of-self
invariant_of-self c =
    let p : Platform = platform_of c.self.inside in
    let line : EndpointFunction = function_line c.args.function.now in
    let good : None ≡ function_fault p line = cc (c.self.view_is, c.in_default.ensures, c.function_line-line.ensures) in
    let items : c.push.new.self.items ≡ cond (is_ok c.push.result) (p.functions ++ line ∷ []) p.functions = rw c.function_line-line.ensures at c.push.ensures.items in
    record {
      platform = kept-either IsPlatform (is_ok c.push.result) p.functions (p.functions ++ line ∷ []) c.push.new.self.items (λ (xs : List EndpointFunction). record p { functions = xs }) items c.self.invariant.platform (keeps-function p line c.self.invariant.platform good);
      places = kept-either IsWellPlaced (is_ok c.push.result) p.functions (p.functions ++ line ∷ []) c.push.new.self.items (λ (xs : List EndpointFunction). record p { functions = xs }) items c.self.invariant.places (places-function p line c.self.invariant.places good);
    }
