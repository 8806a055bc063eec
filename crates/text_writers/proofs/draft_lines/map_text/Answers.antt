use Rattle.std.proofs.Common.{rules, ◌≡◌, ◌∙◌, ◌∷◌, ◌++◌}
use Rattle.std.specs.Prelude.{codes, string_bytes}
use Rattle.text_writers.specs.LayoutLineTexts.{target_kind}
use Rattle.text_writers.specs.DraftFields.{map_back, map_front}
use Rattle.text_writers.proofs.drafts.Joined.{joined}
use Rattle.text_writers.proofs.draft_lines.map_text.Goals as goal

pub returns : goal.returns
returns c =
    let said : string_bytes c.in_ok-text.text ≡ string_bytes c.in_ok-front.front ++ (32 ∷ string_bytes c.in_ok-back.back) = search rules in
    said ∙ rw (c.in_ok-front.ensures, c.in_ok-back.ensures) (joined (codes "map") (map_front c.args.line.now) (target_kind c.args.line.now.target) (map_back c.args.line.now))
