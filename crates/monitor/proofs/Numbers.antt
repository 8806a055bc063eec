-- Reports that are numbered in their order.
use Rattle.std.proofs.Common.{◌≡◌, ℕ, suc, ◌+◌, List, [], ◌∷◌, ◌++◌, length, sym, ap, ◌∙◌, arith}
use Rattle.std.proofs.lemmas.List.{length-map, map-append}
use Rattle.fab_types.specs.declared.violation.Violation.{Violation}
use Rattle.monitor.specs.declared.queue.Report.{Report}
use Rattle.monitor.specs.Numbering.{numbered_from, reports_of, violations_of}

abbrev report_at : ℕ → ℕ → Violation → Report
report_at seat number v = record { seat = seat; number = number; violation = v }

numbered-snoc : (seat n : ℕ) (vs : List Violation) (v : Violation) → numbered_from seat n (vs ++ v ∷ []) ≡ numbered_from seat n vs ++ report_at seat (n + length vs) v ∷ []
numbered-snoc seat n [] v =
    let at : n ≡ n + 0 = omega arith in ap (λ (m : ℕ). report_at seat m v ∷ []) at
numbered-snoc seat n (w ∷ vs) v =
    let at : (n + 1) + length vs ≡ n + suc (length vs) = omega arith in
    ap (λ (l : List Report). report_at seat n w ∷ l)
    (numbered-snoc seat (n + 1) vs v ∙ ap (λ (m : ℕ). numbered_from seat (n + 1) vs ++ report_at seat m v ∷ []) at)

-- one report more, with the next number
pub numbered_more : (seat next : ℕ) (reports : List Report) (v : Violation) → reports ≡ reports_of seat (violations_of reports) → length reports ≡ next
    → reports ++ report_at seat next v ∷ [] ≡ reports_of seat (violations_of (reports ++ report_at seat next v ∷ []))
numbered_more seat next reports v is_numbered long =
    let vs = violations_of reports in
    let same : violations_of (reports ++ report_at seat next v ∷ []) ≡ vs ++ v ∷ [] = map-append (λ (r : Report). r.violation) reports (report_at seat next v ∷ []) in
    let as_long : length vs ≡ length reports = length-map reports (λ (r : Report). r.violation) in
    let at : 0 + length vs ≡ next = omega (arith, as_long, long) in
    ap (λ (l : List Report). l ++ report_at seat next v ∷ []) is_numbered
    ∙ (ap (λ (m : ℕ). reports_of seat vs ++ report_at seat m v ∷ []) (sym at)
    ∙ (sym (numbered-snoc seat 0 vs v) ∙ ap (reports_of seat) (sym same)))
