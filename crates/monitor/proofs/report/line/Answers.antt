use Rattle.std.proofs.Common.{◌≡◌, ℕ, ◌++◌, List, ◌∙◌, append_assoc}
use Rattle.std.specs.Prelude.{codes, string_bytes}
use Rattle.fab_types.specs.Texts.{id_text}
use Rattle.monitor.specs.Lines.{check_letter, class_word}
use Rattle.monitor.proofs.report.line.Goals as goal

-- ten texts, joined from the last or from the first
regroup : (a b c d e f g h i j : List ℕ)
    → a ++ (b ++ (c ++ (d ++ (e ++ (f ++ (g ++ (h ++ (i ++ j)))))))) ≡ a ++ b ++ c ++ d ++ e ++ f ++ g ++ h ++ i ++ j
regroup a b c d e f g h i j = simp append_assoc

pub returns : goal.returns
returns c =
    let v = c.args.violation.now in
    let text : string_bytes c.in_ok-format.field-0 ≡ codes "acs " ++ (id_text v.port ++ (codes " " ++ (c.letter-check.result.now ++ (codes " from "
    ++ (id_text v.sender ++ (codes " as " ++ (id_text v.requester ++ (codes " " ++ c.class_word-class.result.now)))))))) = c.in_ok-format.ensures.ok in
    text ∙ rw (c.letter-check.ensures, c.class_word-class.ensures)
    (regroup (codes "acs ") (id_text v.port) (codes " ") (check_letter v.check) (codes " from ") (id_text v.sender) (codes " as ") (id_text v.requester) (codes " ") (class_word v.posted))
