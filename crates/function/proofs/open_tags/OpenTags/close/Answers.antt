use Rattle.std.proofs.Common.{◌≡◌, ◌∙◌, ap, subst, ℕ, get_or}
use Rattle.function.specs.OpenTags.{Tags}
use Rattle.function.specs.Tags.{closed}
use Rattle.function.proofs.OneNumber.{joined_without, tags_without, taken_within}
use Rattle.function.proofs.open_tags.OpenTags.close.Goals as goal

module _ (c : goal.After-self-2-1) where
  read : c.index_mut.result.now ≡ get_or c.self.inside.numbers.items c.args.tag c.index_mut.result.now
  read = subst (λ (n : ℕ). c.index_mut.result.now ≡ get_or c.self.inside.numbers.items n c.index_mut.result.now) c.from.ensures c.index_mut.ensures.value

pub overflow_sub-self : goal.overflow_sub-self
overflow_sub-self c = taken_within c.self.inside c.self.invariant c.args.tag c.ranges.tag.fits c.index_mut.result.now c.take_out.new.tags
    (subst (λ (n : ℕ). c.index_mut.result.now ≡ get_or c.self.inside.numbers.items n c.index_mut.result.now) c.from.ensures c.index_mut.ensures.value)
    c.args.owner c.take_out.result c.take_out.ensures.tags c.take_out.ensures.count

pub invariant_of-self : goal.invariant_of-self
invariant_of-self c = rw c.from.ensures (tags_without c.self.inside c.self.invariant c.args.tag c.ranges.tag.fits c.index_mut.result.now c.take_out.new.tags (read c) c.args.owner c.take_out.result c.take_out.ensures.tags c.take_out.ensures.count)

pub returns : goal.returns
returns c = rw c.from.ensures (joined_without c.self.inside c.self.invariant c.args.tag c.ranges.tag.fits c.index_mut.result.now c.take_out.new.tags (read c) c.args.owner c.take_out.result c.take_out.ensures.tags c.take_out.ensures.count)
    ∙ ap (λ (t : Tags). closed t.items c.args.owner c.args.tag) c.self.view_is
