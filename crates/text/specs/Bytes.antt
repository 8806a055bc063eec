-- Bytes in lower-case hexadecimal.
use Rattle.std.specs.Prelude.{ℕ, ◌%◌, ◌==◌, ◌&&◌, ◌||◌, nat_lt, nat_le, Bool, List, length, Option, None, if◌then◌else◌}
use Rattle.std.specs.List.{list_all}
use Rattle.std.specs.Result.{result_ok}
use Rattle.hex.specs.Hex.{decode_of}

-- the digits in lower case: `0` to `9` are 48 to 57, `a` to `f` are 97 to 102
abbrev pub is_lower_digit : ℕ → Bool
is_lower_digit c = (nat_le 48 c && nat_le c 57) || (nat_le 97 c && nat_le c 102)

-- whole bytes in lower-case hexadecimal, one at least
abbrev pub is_hexadecimal : List ℕ → Bool
is_hexadecimal text = nat_lt 0 (length text) && (length text % 2 == 0) && list_all is_lower_digit text

-- and what they decode to
abbrev pub hex_bytes : List ℕ → Option (List ℕ)
hex_bytes text = if is_hexadecimal text then result_ok (decode_of text) else None
