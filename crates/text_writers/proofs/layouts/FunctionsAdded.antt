-- Functions are added, below the ports of the whole tree.
use Rattle.std.proofs.Common.{◌≡◌, ◌+◌, ◌%◌, ◌==◌, true, false, refl, ap, subst, ◌∙◌, List, [], ◌∷◌, ◌++◌, Option, Some, None}
use Rattle.std.specs.Prelude.{◌&&◌, nat_le, map, option_map}
use Rattle.std.specs.List.{list_all}
use Rattle.std.proofs.lemmas.Bool.{and_parts}
use Rattle.platform.specs.declared.parts.DownstreamPort.{DownstreamPort}
use Rattle.platform.specs.declared.parts.EndpointFunction.{EndpointFunction}
use Rattle.platform.specs.Platform.{Platform}
use Rattle.platform.specs.Tree.{is_taken, port_leading_to}
use Rattle.layout.specs.Laws.{IsPlatform, is_no_switch, is_placed, is_placed_below}
use Rattle.layout.specs.Places.{IsWellPlaced, are_other_functions}
use Rattle.layout.specs.Rules.{fault_of, function_fault, function_fault_below}
use Rattle.text_writers.specs.PlatformLines.{function_says}
use Rattle.text_writers.proofs.layouts.After.{after, all-after, map-lines, one-after}
use Rattle.text_writers.proofs.layouts.Lists.{all-at, none-passes, pair-front}
use Rattle.text_writers.proofs.layouts.Rules.{is-false, no-not, or-no, skip}
use Rattle.text_writers.proofs.layouts.Stripped.{leading-stripped, stage, stripped}

module _ (p : Platform) (is : IsPlatform p) (placed : IsWellPlaced p) where
  abbrev so_far : List EndpointFunction → List EndpointFunction → Platform
  so_far done rest = stage p p.switches (map stripped p.ports) done [] [] []

  free : (done : List EndpointFunction) (f : EndpointFunction) (rest : List EndpointFunction) → p.functions ≡ done ++ f ∷ rest → is_taken p.switches done f.id ≡ false
  free done f rest e =
      let no_switch : is_no_switch p.switches f ≡ true = all-at (is_no_switch p.switches) done f rest (let P : List EndpointFunction → Type 0 = λ functions. list_all (is_no_switch p.switches) functions ≡ true in subst P e is.free) in
      let others : list_all (λ (x : EndpointFunction). are_other_functions x f) done ≡ true = pair-front are_other_functions done f rest (rw e at placed.functions) in
      or-no _ _ (is-false _ no_switch) (none-passes (λ (x : EndpointFunction). x.id == f.id) (λ (x : EndpointFunction). are_other_functions x f) done (λ x h. is-false _ h) others)

  below-fits : (done : List EndpointFunction) (f : EndpointFunction) (o : Option DownstreamPort) → is_taken p.switches done f.id ≡ false → is_placed_below o f ≡ true → function_fault_below (so_far done []) f (option_map stripped o) ≡ None
  below-fits done f None taken h = absurd cc
  below-fits done f (Some port) taken h =
      let parts = and_parts (f.bar % 4096 == 0) (nat_le port.base f.bar && nat_le (f.bar + 4095) port.limit) h in
      skip _ _ _ taken (skip _ _ _ (or-no _ _ (no-not _ parts.0) (no-not _ parts.1)) refl)

  fits : (done : List EndpointFunction) (f : EndpointFunction) (rest : List EndpointFunction) → p.functions ≡ done ++ f ∷ rest → fault_of (so_far done []) (function_says f) ≡ None
  unfolding function_fault
  fits done f rest e =
      let stands : is_placed p.ports f ≡ true = all-at (is_placed p.ports) done f rest (let P : List EndpointFunction → Type 0 = λ functions. list_all (is_placed p.ports) functions ≡ true in subst P e is.placed) in
      ap (function_fault_below (so_far done []) f) (leading-stripped p.ports f.id) ∙ below-fits done f (port_leading_to p.ports f.id) (free done f rest e) stands

  pub functions-added : after (so_far [] []) (map function_says p.functions) ≡ Some (so_far p.functions [])
  functions-added =
      ap (after (so_far [] [])) (map-lines function_says p.functions)
      ∙ all-after (λ (f : EndpointFunction). function_says f ∷ []) so_far p.functions
      (λ done f rest e. one-after (so_far done []) (function_says f) (so_far (done ++ f ∷ []) []) (fits done f rest e) refl)
