-- What a clause sees of a `Draft`.
use Rattle.std.specs.Prelude.{◌≡◌, ℕ, List, Ok, string_bytes}
use Rattle.layout.specs.Reading.{reading}
use Rattle.platform.specs.Platform.{Platform}
use Rattle.text_writers.specs.declared.draft.Draft.TheInside.{Inside}

-- a layout, and its text
pub record Written : Type 0 where
  pub platform : Platform
  pub text : List ℕ

abbrev pub written_of : Inside → Written
written_of s = record { platform = s.layout; text = string_bytes s.text }

-- the text is read as the layout
abbrev pub IsDraft : Inside → Type 0
IsDraft s = reading (string_bytes s.text) ≡ Ok s.layout
