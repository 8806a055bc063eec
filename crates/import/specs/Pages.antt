-- The register page of a function: a page that one of its base address registers begins (PCIe 4.0, 7.5.1.2.1).
use Rattle.std.specs.Prelude.{ℕ, zero, suc, ◌+◌, ◌%◌, ◌^◌, ◌==◌, Bool, ◌&&◌, nat_le, nat_lt, List, Option, Some, None, option_and_then, if◌then◌else◌}
use Rattle.lspci.specs.declared.bars.Bar.{Bar}
use Rattle.lspci.specs.declared.bars.Bar.TheVariants.{NoMemory, Memory, WideMemory}
use Rattle.lspci.specs.Bars.{bar_at}
use Rattle.import.specs.declared.role.LowWindow.{LowWindow}

-- a whole page inside the window
abbrev pub is_page : LowWindow → ℕ → Bool
is_page window address = (address % 4096 == 0) && nat_le window.base address && nat_le address window.limit && nat_le (address + 4095) window.limit

abbrev pub if_low : ℕ → Option ℕ
if_low address = if nat_lt address (2 ^ 32) then Some address else None

-- the page of one register, or what the registers behind it give, of which `wide` begins one further
abbrev pub page_of_bar : LowWindow → Option ℕ → Option ℕ → Bar → Option ℕ
page_of_bar window next wide NoMemory = next
page_of_bar window next wide (Memory address) = if is_page window address then Some address else next
page_of_bar window next wide (WideMemory address) = if is_page window address then if_low address else wide

-- the first such page, of so many registers from this number on
unfoldable pub page_from : List ℕ → LowWindow → ℕ → ℕ → Option ℕ
page_from bytes window zero number = None
page_from bytes window (suc left) number =
    if nat_le 6 number then None
    else option_and_then (page_of_bar window (page_from bytes window left (number + 1)) (page_from bytes window left (number + 2))) (bar_at bytes number)
