use Rattle.std.proofs.Common.{◌≡◌, ◌+◌, ◌∷◌, [], Option, None, length, arith, length-append, ap, sym, ◌∙◌, refl, inl}
use Rattle.std.specs.Prelude.{option_to_list}
use Rattle.rtrb.specs.Ring.{received}
use Rattle.injector.specs.Rings.{BeginRingView}
use Rattle.injector.specs.declared.begin.Begin.{Begin}
use Rattle.injector.proofs.Numbers.{still_in_turn, some_of, none_of}
use Rattle.injector.proofs.begin_ring.BeginRing.fetch.Goals as goal

pub returns-then-holds_begin-clause-next : goal.returns-then-holds_begin-clause-next
returns-then-holds_begin-clause-next c = λ _. let s = some_of c.args.self.now.held (sym c.holds_begin.ensures ∙ c.if-holds_begin.true) in (s.0, inl (s.1, refl), s.1)

pub invariant_of-self : goal.invariant_of-self
invariant_of-self c =
    let ok = c.in-Ok.ensures.ok in
    let old = c.self.invariant in
    let longer : length (received c.pop.new.self) ≡ length (received c.self.inside.consumer) + 1 = omega (arith, ap length ok.0, length-append (received c.self.inside.consumer) (c.in-Ok.begin ∷ [])) in
    let none : c.self.inside.held ≡ None = ap (λ (v : BeginRingView). v.held) c.self.view_is ∙ none_of c.args.self.now.held (sym c.holds_begin.ensures ∙ c.if-holds_begin.false) in
    let nothing : length (option_to_list c.self.inside.held) ≡ 0 = ap (λ (o : Option Begin). length (option_to_list o)) none in
    record {
      counted = omega (arith, old.counted, nothing, longer);
      small = omega (arith, ok.2.1, longer);
      in_turn = still_in_turn (received c.self.inside.consumer) _ c.in-Ok.begin ok.0 ok.2.0 old.in_turn;
    }
