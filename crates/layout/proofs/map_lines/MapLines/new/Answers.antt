use Rattle.std.proofs.Common.{◌≡◌, ◌∙◌, ◌∷◌, ℕ, [], Global, List, Option, Vec, None, ap, arith, filter, length, length-append, sym, slice_index_or}
use Rattle.std.proofs.lemmas.List.Elements.{All-nil, All-push, All-same}
use Rattle.platform.specs.declared.parts.Mapping.{Mapping}
use Rattle.layout.specs.MapLines.{first_of_frame, is_from_bus}
use Rattle.layout.proofs.map_lines.MapLines.new.Goals as goal

abbrev IsEmpty : Vec Mapping Global → Type 0
IsEmpty lines = lines.items ≡ []

pub loop-init : goal.loop-init
loop-init c =
    let none = c.in_ok-buses.ensures.items in
    (ap length none, All-same IsEmpty c.in_ok-buses.buses.items [] none (All-nil IsEmpty), omega (arith, c.in_ok-buses.ensures.capacity))

pub push_reserved-requires : goal.push_reserved-requires
push_reserved-requires c = omega (arith, c.loop.invariant.0, c.loop.invariant.2, c.loop-test.true)

pub loop-preserved : goal.loop-preserved
loop-preserved c =
    let more = c.push_reserved.ensures.items in
    let long = ap length more ∙ length-append c.loop.buses.items (c.new.result ∷ []) in
    (omega (arith, long, c.loop.invariant.0), All-same IsEmpty c.push_reserved.new.self.items _ more (All-push IsEmpty c.loop.buses.items c.new.result c.loop.invariant.1 c.new.ensures.items), omega (arith, c.push_reserved.ensures.capacity, c.loop.invariant.2))

pub invariant_of-result : goal.invariant_of-result
invariant_of-result c = record {
  all = omega (arith, c.loop.invariant.0, c.loop-test.false, c.loop.auto.counter-end);
  buses = λ bus d low. c.loop.invariant.1 bus d (omega (arith, low, c.loop.invariant.0, c.loop-test.false)) ∙ sym (ap (filter (is_from_bus bus)) c.new-2.ensures.items);
  frames = λ frame. ap (λ (xs : List (Option ℕ)). slice_index_or xs frame None) c.new-3.ensures.items ∙ sym (ap (λ (xs : List Mapping). first_of_frame xs frame) c.new-2.ensures.items);
}
