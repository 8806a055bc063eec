-- What the closing of a Tag by a completion changes (PCIe 4.0, 2.3.2).
use Rattle.std.specs.Prelude.{ℕ, List}
use Rattle.fab_types.specs.declared.origin.Origin.{Origin}
use Rattle.fab_types.specs.declared.origin.Origin.TheVariants.{Function, Host}
use Rattle.fab_types.specs.declared.status.Status.{Status}
use Rattle.function.specs.declared.tags.TagUse.{TagUse}
use Rattle.function.specs.Closings.{closed_by}
use Rattle.domain_state.specs.RegisterPages.{changed}

-- the register pages when a completion has closed a Tag of this use
abbrev pub completed : List (ℕ × List ℕ) → TagUse → Origin → Status → List ℕ → List (ℕ × List ℕ)
completed pages usage (Function f) status payload = changed pages f (λ page. closed_by page usage status payload)
completed pages usage (Host d) status payload = pages
