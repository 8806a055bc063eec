use Rattle.std.proofs.Common.{◌∙◌, ◌==◌, List, ap}
use Rattle.std.specs.List.{list_any}
use Rattle.fab_types.specs.Origins.{same_origin}
use Rattle.function.specs.declared.tags.OpenTag.{OpenTag}
use Rattle.function.proofs.Numbers.{any_passed}
use Rattle.function.proofs.open_tags.OpenTags.is_open.Goals as goal

pub returns : goal.returns
returns c =
    c.has_owner.ensures ∙ ap (λ (tags : List OpenTag). list_any (λ (t : OpenTag). same_origin t.owner c.args.owner) tags) c.with_number.ensures
    ∙ any_passed (λ (t : OpenTag). same_origin t.owner c.args.owner) (λ (t : OpenTag). t.tag == c.args.tag) c.args.self.now.items
