-- The base address registers of a function (PCIe 4.0, 7.5.1.2.1).
use Rattle.std.specs.Prelude.{ℕ, ◌+◌, ◌*◌, ◌/◌, ◌%◌, ◌==◌, List, Option, Some, option_map, option_and_then, if◌then◌else◌}
use Rattle.lspci.specs.declared.bars.Bar.{Bar}
use Rattle.lspci.specs.declared.bars.Bar.TheVariants.{NoMemory, Memory, WideMemory}
use Rattle.lspci.specs.Spaces.{long_at}

abbrev pub wide_bar : ℕ → ℕ → Bar
wide_bar low high = WideMemory (high * 0x1_0000_0000 + low / 16 * 16)

-- Bit 0 is set of one for I/O; bits 2:1 are 10 where the next register has the upper half; bits 31:4 are the address.
abbrev pub bar_of : List ℕ → ℕ → ℕ → Option Bar
bar_of bytes offset low =
    if low % 2 == 1 then Some NoMemory
    else (if low / 2 % 4 == 2 then option_map (wide_bar low) (long_at bytes (offset + 4))
    else Some (Memory (low / 16 * 16)))

abbrev pub bar_at : List ℕ → ℕ → Option Bar
bar_at bytes number = option_and_then (bar_of bytes (0x10 + 4 * number)) (long_at bytes (0x10 + 4 * number))
