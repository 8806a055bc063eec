-- What writers hold.
use Rattle.std.proofs.Common.{ℕ, List, ◌++◌, Option}
use Rattle.std.specs.Prelude.{OnOk, Result, Ok, Err}
use Rattle.std.specs.Io.KnownBytes.{Appends}
use Rattle.reports.proofs.Writing.{joined}

-- one text after another, where the second may fail
pub joined_ok : {E : Type 0} (answer : Result (Unit {0}) E) (old mid new : Option (List ℕ)) (s t : List ℕ) → Appends old mid s → OnOk answer (Appends mid new t) → OnOk answer (Appends old new (s ++ t))
joined_ok (Ok done) old mid new s t a b = joined old mid new s t a b
joined_ok (Err e) old mid new s t a b = tt
