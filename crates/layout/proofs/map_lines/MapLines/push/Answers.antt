use Rattle.std.proofs.Common.{◌≡◌, ◌∙◌, ◌∷◌, ◌++◌, ℕ, [], List, Option, ap, arith, length-set, set, subst, sym}
use Rattle.platform.specs.declared.parts.Mapping.{Mapping}
use Rattle.layout.specs.MapLines.{ByBus, first_of_frame, noted}
use Rattle.layout.proofs.MapLines.{by_bus-more, noted_first}
use Rattle.layout.proofs.map_lines.MapLines.push.Goals as goal

pub invariant_of-self-2 : goal.invariant_of-self-2
invariant_of-self-2 c =
    let lines = c.self.inside.lines.items in
    let more : c.push_reserved.new.self.items ≡ lines ++ c.args.line ∷ [] = c.push_reserved.ensures.items ∙ ap (λ (xs : List Mapping). xs ++ c.args.line ∷ []) c.in_ok-reserve.ensures.items in
    record {
      all = length-set c.self.inside.buses.items c.from.result c.push.new.self ∙ c.self.invariant.all;
      buses = subst (λ (xs : List Mapping). ByBus xs (set c.self.inside.buses.items c.from.result c.push.new.self)) (sym more) (by_bus-more lines c.args.line c.self.inside.buses.items c.from.result c.index_mut.result.now c.push.new.self c.self.invariant.all (omega (arith, c.from.ensures, c.bus.type_inv)) (c.from.ensures ∙ c.bus.ensures) c.self.invariant.buses c.index_mut.ensures.value c.in_ok-push.ensures.items);
      frames = λ frame. c.note_frame.ensures frame ∙ ap (λ (o : Option ℕ). noted o frame c.args.line) (c.in_ok-make_place.ensures.same frame ∙ c.self.invariant.frames frame) ∙ noted_first lines c.args.line frame ∙ ap (λ (xs : List Mapping). first_of_frame xs frame) (sym more);
    }
