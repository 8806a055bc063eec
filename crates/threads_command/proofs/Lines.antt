-- The lines of counts, one after the other.
use Rattle.std.proofs.Common.{◌≡◌, ℕ, List, [], ◌∷◌, ◌++◌, map, Option, sym, ap, ◌∙◌, subst}
use Rattle.std.specs.Io.KnownBytes.{Appends}
use Rattle.std.proofs.lemmas.Grind.{flat_map-append}
use Rattle.std.proofs.lemmas.List.{append-nil, map-append}
use Rattle.reports.proofs.Writing.{joined}
use Rattle.threads_command.specs.Refusals.{refused_line, refused_lines}

-- one count more
pub line_more : {A : Type 0} (shows : A → ℕ × ℕ) (xs : List A) (x : A) (old mid new : Option (List ℕ))
    → Appends old mid (refused_lines (map shows xs)) → Appends mid new (refused_line (shows x)) → Appends old new (refused_lines (map shows (xs ++ x ∷ [])))
line_more shows xs x old mid new before now =
    let text : refused_lines (map shows (xs ++ x ∷ [])) ≡ refused_lines (map shows xs) ++ refused_line (shows x) =
    ap refused_lines (map-append shows xs (x ∷ [])) ∙ (flat_map-append refused_line (map shows xs) (shows x ∷ []) ∙ ap (λ (l : List ℕ). refused_lines (map shows xs) ++ l) (append-nil (refused_line (shows x)))) in
    subst (λ (l : List ℕ). Appends old new l) (sym text) (joined old mid new _ _ before now)
