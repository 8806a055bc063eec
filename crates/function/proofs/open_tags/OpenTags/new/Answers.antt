use Rattle.std.proofs.Common.{◌≡◌, ◌∙◌, ◌∷◌, [], Global, Vec, ap, arith, length, length-append, sym, true, ◌<◌}
use Rattle.std.proofs.lemmas.List.Elements.{All-nil, All-push, All-same}
use Rattle.function.specs.declared.tags.OpenTag.{OpenTag}
use Rattle.function.specs.Tags.{is_line}
use Rattle.function.proofs.Numbers.{joined-none, numbered-none}
use Rattle.function.proofs.open_tags.OpenTags.new.Goals as goal

abbrev IsEmpty : Vec OpenTag Global → Type 0
IsEmpty tags = tags.items ≡ []

pub loop-init : goal.loop-init
loop-init c =
    let none = c.in_ok-numbers.ensures.items in
    (ap length none, All-same IsEmpty c.in_ok-numbers.numbers.items [] none (All-nil IsEmpty), omega (arith, c.in_ok-numbers.ensures.capacity))

pub push_reserved-requires : goal.push_reserved-requires
push_reserved-requires c = omega (arith, c.loop.invariant.0, c.loop.invariant.2, c.loop-test.true)

pub loop-preserved : goal.loop-preserved
loop-preserved c =
    let more = c.push_reserved.ensures.items in
    let long = ap length more ∙ length-append c.loop.numbers.items (c.new.result ∷ []) in
    (omega (arith, long, c.loop.invariant.0), All-same IsEmpty c.push_reserved.new.self.items _ more (All-push IsEmpty c.loop.numbers.items c.new.result c.loop.invariant.1 c.new.ensures.items), omega (arith, c.push_reserved.ensures.capacity, c.loop.invariant.2))

pub invariant_of-result : goal.invariant_of-result
invariant_of-result c = record {
  all = omega (arith, c.loop.invariant.0, c.loop-test.false, c.loop.auto.counter-end);
  numbered = numbered-none c.loop.numbers.items 0 c.loop.invariant.1;
  lines = All-same (λ (t : OpenTag). is_line t.usage ≡ true → t.tag < 8) _ [] (joined-none c.loop.numbers.items c.loop.invariant.1) (All-nil (λ (t : OpenTag). is_line t.usage ≡ true → t.tag < 8));
  count = sym (ap length (joined-none c.loop.numbers.items c.loop.invariant.1));
}

pub returns : goal.returns
returns c = joined-none c.loop.numbers.items c.loop.invariant.1
