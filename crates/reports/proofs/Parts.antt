-- The parts of a report, domain by domain.
use Rattle.std.proofs.Common.{◌≡◌, ℕ, ◌+◌, ◌<◌, ◌≤◌, List, [], ◌∷◌, ◌++◌, length, take, refl, sym, ap, ◌∙◌, subst, append_assoc}
use Rattle.std.specs.Prelude.{slice_index_or}
use Rattle.std.proofs.lemmas.List.{append-nil}
use Rattle.domain.specs.Domains.{DomainView}
use Rattle.fab_types.proofs.Taking.{take_all, take_next}
use Rattle.reports.specs.Report.{AreParts, IsPart}

parts_more : (ds : List DomainView) (d : DomainView) (text part : List ℕ) → AreParts ds text → IsPart d part → AreParts (ds ++ d ∷ []) (text ++ part)
parts_more [] d text part are is = (part, [], is, refl, ap (λ (t : List ℕ). t ++ part) are ∙ sym (append-nil part))
parts_more (e ∷ ds) d text part are is =
    (are.0, are.1 ++ part, are.2, parts_more ds d are.1 part are.3 is, ap (λ (t : List ℕ). t ++ part) are.4 ∙ append_assoc are.0 are.1 part)

pub parts_next : (ds : List DomainView) (i : ℕ) (d : DomainView) (text part : List ℕ) → i < length ds → d ≡ slice_index_or ds i d → AreParts (take i ds) text → IsPart d part → AreParts (take (i + 1) ds) (text ++ part)
parts_next ds i d text part lt is are part_is =
    subst (λ (xs : List DomainView). AreParts xs (text ++ part)) (sym (take_next ds i d lt is)) (parts_more (take i ds) d text part are part_is)

pub parts_whole : (ds : List DomainView) (i : ℕ) (text : List ℕ) → length ds ≤ i → AreParts (take i ds) text → AreParts ds text
parts_whole ds i text le are = subst (λ (xs : List DomainView). AreParts xs text) (take_all ds i le) are
