-- A walk of some registers looks at one, and then walks one less.
use Rattle.std.proofs.Common.{◌≡◌, ℕ, zero, suc, ◌+◌, ◌<◌, ◌-◌, cond, List, None, refl, arith}
use Rattle.std.specs.Prelude.{nat_le, option_and_then}
use Rattle.lspci.specs.Bars.{bar_at}
use Rattle.import.specs.declared.role.LowWindow.{LowWindow}
use Rattle.import.specs.Pages.{page_from, page_of_bar}

pub page_none : (bytes : List ℕ) (window : LowWindow) (left number : ℕ) → left ≡ 0 → page_from bytes window left number ≡ None
unfolding page_from
page_none bytes window zero number e = refl
page_none bytes window (suc left) number e = absurd (omega arith)

pub page_step : (bytes : List ℕ) (window : LowWindow) (left number : ℕ) → 0 < left
    → page_from bytes window left number
    ≡ cond (nat_le 6 number) None (option_and_then (page_of_bar window (page_from bytes window (left - 1) (number + 1)) (page_from bytes window (left - 1) (number + 2))) (bar_at bytes number))
unfolding page_from
page_step bytes window zero number h = absurd (omega arith)
page_step bytes window (suc left) number h = let e : suc left - 1 ≡ left = omega arith in rw e refl
