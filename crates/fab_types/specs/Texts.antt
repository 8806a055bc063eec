-- How IDs are printed.
use Rattle.std.specs.Prelude.{ℕ, ◌++◌, ◌-◌, ◌^◌, false, List, [], codes}
use Rattle.std.specs.Fmt.{decimal, digits, format_spec, padded_integral}
use Rattle.fab_types.specs.Id.{bus_of, device_of, function_of}

-- in hexadecimal, with a zero in front where that is one digit
abbrev pub byte_text : ℕ → List ℕ
byte_text n = padded_integral (format_spec 32 0 4 2 (2 ^ 64 - 1)) false [] (digits 16 false n)

-- `03:00.0`: the bus in two hexadecimal digits, the device in two, the function in one digit
abbrev pub id_text : ℕ → List ℕ
id_text id = byte_text (bus_of id) ++ codes ":" ++ byte_text (device_of id) ++ codes "." ++ decimal (function_of id)
