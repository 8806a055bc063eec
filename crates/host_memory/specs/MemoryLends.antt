-- What becomes of a memory of which a part was lent to be written.
use Rattle.std.specs.Prelude.{ℕ, List, Option}
use Rattle.std.specs.Borrow.{Lends, LendsIf, MutBor, Fml, Array, u8}
use Rattle.host_memory.specs.Pages.{written}
use Rattle.host_memory.specs.contracts.memory.HostMemory.{the_row}

-- the memory ends with what was left in the part, from start on in page k
abbrev pub LendsPart : MutBor (List (ℕ × List ℕ)) → ℕ → ℕ → MutBor (List ℕ) → Fml
LendsPart memory k start part = Lends the_row (Array u8 0) memory part (written memory.now k start)

-- the same where there is a part; where there is none it ends as it is
abbrev pub LendsPartIf : MutBor (List (ℕ × List ℕ)) → ℕ → ℕ → Option (MutBor (List ℕ)) → Fml
LendsPartIf memory k start part = LendsIf the_row (Array u8 0) memory part (written memory.now k start) memory.now
