-- The parts of a report with totals, domain by domain.
use Rattle.std.proofs.Common.{◌≡◌, ℕ, ◌+◌, ◌<◌, ◌≤◌, List, [], ◌∷◌, ◌++◌, length, map, take, refl, sym, ap, ◌∙◌, subst, append_assoc}
use Rattle.std.specs.Prelude.{slice_index_or}
use Rattle.std.proofs.lemmas.List.{append-nil, get_or-map}
use Rattle.domain.specs.Domains.{DomainView}
use Rattle.fab_types.proofs.Taking.{take_all, take_next}
use Rattle.threads_command.specs.Counted.{AreCountedParts, IsCountedPart}
use Rattle.thread_totals.specs.declared.totals.Totals.{Totals}

module _ (totals : DomainView → Totals) where
  parts_more : (ds : List DomainView) (d : DomainView) (text part : List ℕ) → AreCountedParts totals ds text → IsCountedPart (totals d) d part → AreCountedParts totals (ds ++ d ∷ []) (text ++ part)
  parts_more [] d text part are is = (part, [], is, refl, ap (λ (t : List ℕ). t ++ part) are ∙ sym (append-nil part))
  parts_more (e ∷ ds) d text part are is =
      (are.0, are.1 ++ part, are.2, parts_more ds d are.1 part are.3 is, ap (λ (t : List ℕ). t ++ part) are.4 ∙ append_assoc are.0 are.1 part)

  pub parts_next : (ds : List DomainView) (i : ℕ) (d : DomainView) (text part : List ℕ) → i < length ds → d ≡ slice_index_or ds i d → AreCountedParts totals (take i ds) text → IsCountedPart (totals d) d part
      → AreCountedParts totals (take (i + 1) ds) (text ++ part)
  parts_next ds i d text part lt is are part_is =
      subst (λ (xs : List DomainView). AreCountedParts totals xs (text ++ part)) (sym (take_next ds i d lt is)) (parts_more (take i ds) d text part are part_is)

  pub parts_whole : (ds : List DomainView) (i : ℕ) (text : List ℕ) → length ds ≤ i → AreCountedParts totals (take i ds) text → AreCountedParts totals ds text
  parts_whole ds i text le are = subst (λ (xs : List DomainView). AreCountedParts totals xs text) (take_all ds i le) are

  -- what was counted of the domain at a place
  pub counted_at : (ds : List DomainView) (all : List Totals) (i : ℕ) (d : DomainView) (t : Totals) → i < length ds → d ≡ slice_index_or ds i d → map totals ds ≡ all → t ≡ slice_index_or all i t → t ≡ totals d
  counted_at ds all i d t lt at made is = is ∙ ap (λ (l : List Totals). slice_index_or l i t) (sym made) ∙ get_or-map totals ds i d t lt ∙ ap totals (sym at)
