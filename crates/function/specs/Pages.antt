-- What a function keeps of its page, and how a contract sees it.
use Rattle.std.specs.Prelude.{◌≡◌, ◌<◌, ℕ, List, vec_len}
use Rattle.function.specs.declared.function.Function.TheInside.{Inside}
use Rattle.function.specs.Registers.{status_of, counter_of}

abbrev pub page_of : Inside → ℕ × List ℕ
page_of f = (f.id, f.bytes.items)

-- a program that runs has a line
abbrev pub Runs : List ℕ → Type 0
Runs page = status_of page ≡ 1 → counter_of page < 16

pub record IsPage (f : Inside) : Type 0 where
  pub long : vec_len f.bytes ≡ 4096
  pub runs : Runs f.bytes.items
