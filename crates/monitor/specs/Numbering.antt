-- Reports that bear a seat and their numbers.
use Rattle.std.specs.Prelude.{ℕ, ◌+◌, List, [], ◌∷◌, map}
use Rattle.fab_types.specs.declared.violation.Violation.{Violation}
use Rattle.monitor.specs.declared.queue.Report.{Report}

abbrev pub numbered_from : ℕ → ℕ → List Violation → List Report
numbered_from seat number [] = []
numbered_from seat number (v ∷ vs) = record { seat = seat; number = number; violation = v } ∷ numbered_from seat (number + 1) vs

-- the reports of a seat, which reported these violations in this order
abbrev pub reports_of : ℕ → List Violation → List Report
reports_of seat violations = numbered_from seat 0 violations

abbrev pub violations_of : List Report → List Violation
violations_of reports = map (λ r. r.violation) reports
