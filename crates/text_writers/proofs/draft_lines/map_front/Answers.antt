use Rattle.std.proofs.Common.{rules, ◌≡◌, ◌∙◌, [], ◌∷◌, ◌++◌, false, sym, ap, List, ℕ}
use Rattle.std.specs.Prelude.{codes, string_bytes}
use Rattle.std.specs.Fmt.{digits}
use Rattle.std.proofs.lemmas.List.{append-nil}
use Rattle.fab_types.specs.Texts.{id_text}
use Rattle.text_writers.proofs.draft_lines.map_front.Goals as goal

pub returns : goal.returns
returns c =
    let said : string_bytes c.in_ok-text.text ≡ codes "map " ++ (id_text c.args.line.now.requester ++ (32 ∷ string_bytes c.in_ok-page.page)) = search rules in
    let page : string_bytes c.in_ok-page.page ≡ digits 16 false c.args.line.now.page ++ [] = c.in_ok-page.ensures ∙ sym (append-nil (digits 16 false c.args.line.now.page)) in
    said ∙ ap (λ (text : List ℕ). codes "map " ++ (id_text c.args.line.now.requester ++ (32 ∷ text))) page
