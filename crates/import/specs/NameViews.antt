-- What a clause sees of `Names`.
use Rattle.std.specs.Prelude.{◌≡◌, ℕ, List, drop}
use Rattle.text.specs.Text.{pieces}
use Rattle.import.specs.declared.names.Names.TheInside.{Inside}

abbrev pub text_of : Inside → List ℕ
text_of s = s.text.now

-- what is left has the lines behind those that were passed
abbrev pub HasPassed : Inside → Type 0
HasPassed s = pieces s.rest.now ≡ drop s.passed (pieces s.text.now)
