-- The part of the report of a fabric in threads that a domain has: with what counts of it.
use Rattle.std.specs.Prelude.{◌≡◌, ℕ, ◌++◌, List, [], ◌∷◌, codes}
use Rattle.std.specs.Fmt.{decimal}
use Rattle.domain.specs.Domains.{DomainView}
use Rattle.reports.specs.Report.{IsHolding, counts_line}
use Rattle.thread_totals.specs.declared.totals.Totals.{Totals}

-- what counts of the domain of this number
abbrev pub totals_line : ℕ → Totals → List ℕ
totals_line number t =
    (codes "totals " ++ decimal number ++ codes " emitted " ++ decimal t.emitted ++ codes " consumed " ++ decimal t.consumed ++ codes " found " ++ decimal t.found)
    ++ (codes " taken " ++ decimal t.taken ++ codes " begins " ++ decimal t.begins)
    ++ (codes " refused " ++ decimal t.refused ++ codes " held " ++ decimal t.held ++ codes "\n")

-- the line of what the domain counted, that of these totals, and what it holds
pub record IsCountedPart (t : Totals) (d : DomainView) (text : List ℕ) : Type 0 where
  pub holding : List ℕ
  pub holds : IsHolding d holding
  pub lines : text ≡ counts_line d ++ totals_line d.share.domain t ++ holding

-- ---- all domains

abbrev pub AreCountedParts : (DomainView → Totals) → List DomainView → List ℕ → Type 0
AreCountedParts totals [] text = text ≡ []
AreCountedParts totals (d ∷ ds) text = (part rest : List ℕ) × IsCountedPart (totals d) d part × AreCountedParts totals ds rest × (text ≡ part ++ rest)
