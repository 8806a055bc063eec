use Rattle.std.proofs.Common.{sym, ◌∙◌, ◌==◌, ap, arith, filter, Global, Vec}
use Rattle.function.specs.declared.tags.OpenTag.{OpenTag}
use Rattle.function.specs.OpenTags.{Tags}
use Rattle.function.proofs.Numbers.{at_number}
use Rattle.function.proofs.open_tags.OpenTags.with_number.Goals as goal

-- src/open_tags.rt:57:5
pub returns : goal.returns
returns c =
    let numbers = c.self.inside.numbers.items in
    c.deref.ensures.value ∙ ap (λ (tags : Vec OpenTag Global). tags.items) c.index.ensures
    ∙ sym (at_number numbers 0 c.from.result c.args.number c.index.result.now c.self.invariant.numbered (omega (arith, c.self.invariant.all, c.ranges.number.fits, c.from.ensures)) (omega (arith, c.from.ensures)))
    ∙ ap (λ (t : Tags). filter (λ (open_tag : OpenTag). open_tag.tag == c.args.number) t.items) c.self.view_is
