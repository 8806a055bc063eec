use Rattle.std.proofs.Common.{◌≡◌, ◌∙◌, ◌++◌, ◌∷◌, ◌<◌, [], true, All, List, Global, Vec, ap, arith, get_or, length, length-set, refl, set}
use Rattle.std.proofs.lemmas.List.Elements.{All-push, All-same}
use Rattle.function.specs.declared.tags.OpenTag.{OpenTag}
use Rattle.function.specs.OpenTags.{Tags}
use Rattle.function.specs.Tags.{and_open, is_line}
use Rattle.function.proofs.Numbers.{All-and_open, joined, joined-opened, length-and_open, numbered-at, numbered-set}
use Rattle.function.proofs.open_tags.OpenTags.open_reserved.Goals as goal

module _ (c : goal.After-self-2-1) where
  abbrev opened : OpenTag
  opened = record { owner = c.args.owner; tag = c.args.tag; usage = c.args.usage }

  abbrev numbers : List (Vec OpenTag Global)
  numbers = c.self.inside.numbers.items

  within : c.from.result < length numbers
  within = omega (arith, c.self.invariant.all, c.ranges.tag.fits, c.from.ensures)

  more : c.push_reserved.new.self.items ≡ (get_or numbers c.from.result c.index_mut.result.now).items ++ opened ∷ []
  more = c.push_reserved.ensures.items ∙ ap (λ (v : Vec OpenTag Global). v.items ++ opened ∷ []) c.index_mut.ensures.value

  all : joined (set numbers c.from.result c.push_reserved.new.self) ≡ and_open (joined numbers) opened
  all = joined-opened numbers 0 c.from.result c.push_reserved.new.self c.index_mut.result.now opened c.self.invariant.numbered within (omega (arith, c.from.ensures)) more

  own : All (λ (t : OpenTag). t.tag ≡ c.args.tag) c.push_reserved.new.self.items
  own = All-same (λ (t : OpenTag). t.tag ≡ c.args.tag) _ _ more (All-push (λ (t : OpenTag). t.tag ≡ c.args.tag) (get_or numbers c.from.result c.index_mut.result.now).items opened
      (numbered-at numbers 0 c.from.result c.args.tag c.index_mut.result.now c.self.invariant.numbered within (omega (arith, c.from.ensures))) refl)

pub invariant_of-self : goal.invariant_of-self
invariant_of-self c = record {
  all = length-set (numbers c) c.from.result c.push_reserved.new.self ∙ c.self.invariant.all;
  numbered = numbered-set (numbers c) 0 c.from.result c.args.tag c.push_reserved.new.self c.self.invariant.numbered (omega (arith, c.from.ensures)) (own c);
  lines = All-same (λ (t : OpenTag). is_line t.usage ≡ true → t.tag < 8) _ _ (all c) (All-and_open (opened c) (λ (t : OpenTag). is_line t.usage ≡ true → t.tag < 8) c.requires.line (joined (numbers c)) c.self.invariant.lines);
  count = let longer = ap length (all c) ∙ length-and_open (opened c) (joined (numbers c)) in omega (arith, longer, c.self.invariant.count);
}

pub returns : goal.returns
returns c = all c ∙ ap (λ (t : Tags). and_open t.items (opened c)) c.self.view_is
