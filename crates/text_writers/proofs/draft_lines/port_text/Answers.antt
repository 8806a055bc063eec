use Rattle.std.proofs.Common.{rules, ◌≡◌, ◌∙◌, ◌∷◌, ◌++◌}
use Rattle.std.specs.Prelude.{codes, string_bytes}
use Rattle.text_writers.specs.Words.{hex_text}
use Rattle.text_writers.specs.DraftFields.{port_back, port_front}
use Rattle.text_writers.proofs.drafts.Joined.{joined}
use Rattle.text_writers.proofs.draft_lines.port_text.Goals as goal

pub returns : goal.returns
returns c =
    let said : string_bytes c.in_ok-text.text ≡ string_bytes c.in_ok-front.front ++ (32 ∷ string_bytes c.in_ok-back.back) = search rules in
    said ∙ rw (c.in_ok-front.ensures, c.in_ok-back.ensures) (joined (codes "port") (port_front c.args.port.now) (hex_text 8 c.args.port.now.base) (port_back c.args.port.now))
