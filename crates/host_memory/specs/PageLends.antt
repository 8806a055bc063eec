-- What becomes of a page of which a part was lent to be written.
use Rattle.std.specs.Prelude.{ℕ, List}
use Rattle.std.specs.Borrow.{Lends, MutBor, Fml, Array, u8}
use Rattle.fab_types.specs.Bytes.{overwritten}
use Rattle.host_memory.specs.declared.page.Page.{Page}
use Rattle.host_memory.specs.contracts.page.Page.{the_row}

-- the page ends with what was left in the part, from start on
abbrev pub LendsPart : MutBor Page → ℕ → MutBor (List ℕ) → Fml
LendsPart page start part = Lends the_row (Array u8 0) page part (λ left. record { bytes = overwritten page.now.bytes start left })
