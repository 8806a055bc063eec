-- What the bytes of a completion end as, where its payload is lent. No public clause cites this module.
use Rattle.std.specs.Prelude.{ℕ, List, length, ◌++◌, take, drop}
use Rattle.std.specs.Borrow.{Lends, MutBor, Fml, Array, u8}
use Rattle.tlp_view.specs.declared.cells.Cells.{Cells}
use Rattle.tlp_view.specs.contracts.cells.Cells.{the_row}

-- as many bytes, with others from byte 12 on
abbrev pub with_part : List ℕ → List ℕ → List ℕ
with_part bytes part = take (length bytes) (take 12 bytes ++ (part ++ drop (length part) (drop 12 bytes)))

-- once the borrow r ends, the bytes from byte 12 on are those that were written through r
abbrev pub LendsPart : MutBor Cells → MutBor (List ℕ) → Fml
LendsPart cells r = Lends the_row (Array u8 0) cells r (λ written. record { xs = with_part cells.now.xs written })
