use Rattle.std.proofs.Common.{◌≡◌, ◌∙◌, ◌<◌, true, ap, sym}
use Rattle.std.proofs.lemmas.List.Elements.{All-same}
use Rattle.function.specs.declared.tags.OpenTag.{OpenTag}
use Rattle.function.specs.OpenTags.{Tags}
use Rattle.function.specs.Tags.{is_line}
use Rattle.function.proofs.LineTags.{line_numbers_suffice}
use Rattle.function.proofs.open_tags.OpenTags.awaits_line.Goals as goal

pub returns : goal.returns
returns c =
    c.awaits_at_line_number.ensures
    ∙ line_numbers_suffice c.args.self.now.items c.args.function
    (All-same (λ (t : OpenTag). is_line t.usage ≡ true → t.tag < 8) c.args.self.now.items _ (ap (λ (t : Tags). t.items) (sym c.self.view_is)) c.self.invariant.lines)
