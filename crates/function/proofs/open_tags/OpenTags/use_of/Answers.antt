use Rattle.std.proofs.Common.{◌∙◌, ◌==◌, List, Option, ap, option_map, unwrap_or}
use Rattle.std.specs.List.{find}
use Rattle.fab_types.specs.Origins.{same_origin}
use Rattle.function.specs.declared.tags.OpenTag.{OpenTag}
use Rattle.function.specs.declared.tags.TagUse.TheVariants.{Raw}
use Rattle.function.proofs.Numbers.{found_passed}
use Rattle.function.proofs.open_tags.OpenTags.use_of.Goals as goal

pub returns : goal.returns
returns c =
    c.use_by.ensures ∙ ap (λ (found : Option OpenTag). unwrap_or (option_map (λ (t : OpenTag). t.usage) found) Raw)
    (ap (λ (tags : List OpenTag). find (λ (t : OpenTag). same_origin t.owner c.args.owner) tags) c.with_number.ensures
    ∙ found_passed (λ (t : OpenTag). same_origin t.owner c.args.owner) (λ (t : OpenTag). t.tag == c.args.tag) c.args.self.now.items)
