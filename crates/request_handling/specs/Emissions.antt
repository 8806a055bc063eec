-- What a domain makes.
use Rattle.std.specs.Prelude.{ℕ, List}
use Rattle.fab_types.specs.declared.head.Parties.{Parties}

-- a packet that the domain made: its parties and its bytes
pub record Emission : Type 0 where
  pub parties : Parties
  pub bytes : List ℕ
