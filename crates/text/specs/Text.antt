-- The lines of a text, the fields of a line, and numbers and IDs in them.
use Rattle.std.specs.Prelude.{ℕ, ◌+◌, ◌*◌, ◌-◌, ◌^◌, ◌==◌, Bool, true, false, ◌&&◌, nat_lt, nat_le, List, [], ◌∷◌, length, take, drop, slice_index, Option, Some, None, option_map, option_and_then, if◌then◌else◌}
use Rattle.std.specs.List.{position}
use Rattle.fab_types.specs.Id.{id_of}

abbrev pub is_byte : ℕ → ℕ → Bool
is_byte byte b = b == byte

-- what stands before a place of a text, and what stands after it
abbrev pub cut_at : List ℕ → ℕ → List ℕ × List ℕ
cut_at text at = (take at text, drop (at + 1) text)

-- a text cut at the first such byte
unfoldable pub cut : ℕ → List ℕ → Option (List ℕ × List ℕ)
cut byte text = option_map (cut_at text) (position (is_byte byte) text)

-- a text cut at its first blank
abbrev pub at_blank : List ℕ → Option (List ℕ × List ℕ)
at_blank text = cut 32 text

infixl 10 ◌>>=◌
abbrev pub ◌>>=◌ : {A B : Type 0} → Option A → (A → Option B) → Option B
o >>= f = option_and_then f o

abbrev pub before_line : ℕ → List (List ℕ) → List (List ℕ)
before_line b [] = []
before_line b (line ∷ lines) = (b ∷ line) ∷ lines

-- a text split at each line feed. What stands after the last one, if only nothing, is the last piece.
abbrev pub pieces : List ℕ → List (List ℕ)
pieces [] = [] ∷ []
pieces (b ∷ text) = if b == 10 then [] ∷ pieces text else before_line b (pieces text)

-- the piece before these is the last
abbrev pub is_last : List (List ℕ) → Bool
is_last [] = true
is_last (piece ∷ rest) = false

-- the line begins with `#`
abbrev pub is_comment : List ℕ → Bool
is_comment line = slice_index line 0 == 35

abbrev pub decimal_digit : ℕ → Option ℕ
decimal_digit b = if nat_le 48 b && nat_le b 57 then Some (b - 48) else None

-- a hexadecimal digit, in lower case
abbrev pub hex_digit : ℕ → Option ℕ
hex_digit b = if nat_le 48 b && nat_le b 57 then Some (b - 48) else (if nat_le 97 b && nat_le b 102 then Some (b - 87) else None)

-- the number that digits spell, behind those that spelled `high`
abbrev pub digits : (ℕ → Option ℕ) → ℕ → ℕ → List ℕ → Option ℕ
digits digit base high [] = Some high
digits digit base high (b ∷ text) = option_and_then (λ d. digits digit base (high * base + d) text) (digit b)

-- one to nine decimal digits; leading zeros are allowed
unfoldable pub decimal : List ℕ → Option ℕ
decimal text = if nat_le 1 (length text) && nat_le (length text) 9 then digits decimal_digit 10 0 text else None

-- a number of 64 bits, in one to twenty decimal digits; leading zeros are allowed
unfoldable pub wide_decimal : List ℕ → Option ℕ
wide_decimal text = do
  n ← if nat_le 1 (length text) && nat_le (length text) 20 then digits decimal_digit 10 0 text else None
  if nat_lt n (2 ^ 64) then Some n else None

-- so many hexadecimal digits in lower case
unfoldable pub hexadecimal : ℕ → ℕ → List ℕ → Option ℕ
hexadecimal least most text = if nat_le least (length text) && nat_le (length text) most then digits hex_digit 16 0 text else None

abbrev pub hex_pair : ℕ → ℕ → Option ℕ
hex_pair high low = option_and_then (λ h. option_and_then (λ l. Some (h * 16 + l)) (hex_digit low)) (hex_digit high)

-- the ID of these parts, if there is one (PCIe 4.0, 2.2.4.2)
abbrev pub id_of_known : ℕ → ℕ → ℕ → Option ℕ
id_of_known bus device function = if nat_lt device 32 && nat_lt function 8 then Some (id_of bus device function) else None

abbrev pub id_of_parts : Option ℕ → Option ℕ → Option ℕ → Option ℕ
id_of_parts bus device function = option_and_then (λ b. option_and_then (λ d. option_and_then (λ f. id_of_known b d f) function) device) bus

-- an ID, as `03:00.0`: two hexadecimal digits, two, one digit
unfoldable pub id_at : List ℕ → Option ℕ
id_at text =
    if (length text == 7) && (slice_index text 2 == 58) && (slice_index text 5 == 46)
    then id_of_parts (hex_pair (slice_index text 0) (slice_index text 1)) (hex_pair (slice_index text 3) (slice_index text 4)) (hex_digit (slice_index text 6))
    else None
