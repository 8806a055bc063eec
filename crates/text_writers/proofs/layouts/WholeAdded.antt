-- All lines of a platform are added, and give the platform.
use Rattle.std.proofs.Common.{◌≡◌, ℕ, ◌==◌, Bool, true, false, cond, refl, ap, sym, ◌∙◌, List, [], ◌∷◌, ◌++◌, Some, None, arith, eqb-true}
use Rattle.std.specs.Prelude.{nat_le, map}
use Rattle.std.specs.List.{flat_map}
use Rattle.std.proofs.lemmas.Bool.{and_from, le-leb}
use Rattle.std.proofs.lemmas.Bool.Decides.{nat_tests}
use Rattle.std.proofs.lemmas.List.{append-nil}
use Rattle.platform.specs.declared.parts.DownstreamPort.{DownstreamPort}
use Rattle.platform.specs.Platform.{Platform, no_lines}
use Rattle.layout_line.specs.declared.lines.LayoutLine.TheVariants as line
use Rattle.layout.specs.Laws.{IsPlatform}
use Rattle.layout.specs.Places.{IsWellPlaced}
use Rattle.layout.specs.Rules.{fault_of, frames_fault}
use Rattle.text_writers.specs.HasLines.{HasLines}
use Rattle.text_writers.specs.PlatformLines.{budget_says, credit_says, frames_lines, function_says, lines_of, map_says, part_lines, tree_lines, vector_lines}
use Rattle.text_writers.proofs.layouts.After.{after, both-after, one-after}
use Rattle.text_writers.proofs.layouts.FunctionsAdded.{functions-added}
use Rattle.text_writers.proofs.layouts.MapsAdded.{maps-added}
use Rattle.text_writers.proofs.layouts.PortsAdded.{tree}
use Rattle.text_writers.proofs.layouts.Rules.{no-not, skip}
use Rattle.text_writers.proofs.layouts.Stripped.{stage, stripped}
use Rattle.text_writers.proofs.layouts.TablesAdded.{budgets-added, credits-added}
use Rattle.text_writers.proofs.layouts.TreeAdded.{tree-added}
use Rattle.text_writers.proofs.layouts.VectorsAdded.{vectors-added}

some-frames : (n : ℕ) → (n == 0) ≡ false → nat_le 1 n ≡ true
some-frames n h = grind (arith, nat_tests)

module _ (p : Platform) (is : IsPlatform p) (placed : IsWellPlaced p) (has : HasLines p) where
  frames-fit : (p.frames == 0) ≡ false → fault_of (no_lines p.version) (line.Frames p.frames) ≡ None
  unfolding frames_fault
  frames-fit some = skip _ _ _ (no-not _ (and_from _ _ (some-frames p.frames some) (le-leb p.frames 1024 is.limits.frames))) refl

  frames-added : (none : Bool) → (p.frames == 0) ≡ none → after (no_lines p.version) (cond none [] (line.Frames p.frames ∷ [])) ≡ Some (tree p [] [])
  frames-added true e =
      let zero_frames : 0 ≡ p.frames = sym (eqb-true p.frames 0 e) in
      ap (λ (frames : ℕ). Some (record { version = p.version; frames = frames; switches = []; ports = []; functions = []; maps = []; budgets = []; credits = [] })) zero_frames
  frames-added false e = one-after (no_lines p.version) (line.Frames p.frames) (tree p [] []) (frames-fit e) refl

  tables-added : after (stage p p.switches (map stripped p.ports) p.functions p.maps [] []) (map budget_says p.budgets ++ (map credit_says p.credits ++ flat_map vector_lines p.ports)) ≡ Some p
  tables-added =
      both-after (map budget_says p.budgets) _ (stage p p.switches (map stripped p.ports) p.functions p.maps [] []) (stage p p.switches (map stripped p.ports) p.functions p.maps p.budgets []) (Some p) (budgets-added p is has)
      (both-after (map credit_says p.credits) (flat_map vector_lines p.ports) (stage p p.switches (map stripped p.ports) p.functions p.maps p.budgets []) (stage p p.switches (map stripped p.ports) p.functions p.maps p.budgets p.credits) (Some p) (credits-added p is has)
      (vectors-added p is has ∙ ap (λ (ports : List DownstreamPort). Some (stage p p.switches ports p.functions p.maps p.budgets p.credits)) (append-nil p.ports)))

  pub whole-added : after (no_lines p.version) (lines_of p) ≡ Some p
  whole-added =
      both-after (frames_lines p.frames) _ (no_lines p.version) (tree p [] []) (Some p) (frames-added (p.frames == 0) refl)
      (both-after (tree_lines p.switches p.ports) _ (tree p [] []) (tree p p.switches p.ports) (Some p) (tree-added p is placed has)
      (both-after (map function_says p.functions) (part_lines p) (tree p p.switches p.ports) (stage p p.switches (map stripped p.ports) p.functions [] [] []) (Some p) (functions-added p is placed)
      (both-after (map map_says p.maps) _ (stage p p.switches (map stripped p.ports) p.functions [] [] []) (stage p p.switches (map stripped p.ports) p.functions p.maps [] []) (Some p) (maps-added p is)
      tables-added)))
