-- Files that are written.
use Rattle.std.specs.Prelude.{◌≡◌, ⊤, ℕ, List, ◌++◌, Option, Some, None}
use Rattle.std.specs.Io.KnownBytes.{Appends}

pub record File : Type 0 where
  pub name : List ℕ
  pub bytes : List ℕ

-- where it is known which files were written, these were added
abbrev pub Adds : Option (List File) → Option (List File) → List File → Type 0
Adds None new files = ⊤
Adds (Some old) None files = ⊥
Adds (Some old) (Some new) files = new ≡ old ++ files

-- a writer grew by a text, and files were written, of which this holds
abbrev pub WroteBoth : Option (List ℕ) → Option (List ℕ) → Option (List File) → Option (List File) → (List ℕ → List File → Type 0) → Type 0
WroteBoth old new written more says = (text : List ℕ) × (files : List File) × says text files × Appends old new text × Adds written more files
