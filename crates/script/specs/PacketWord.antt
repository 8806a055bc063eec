-- The words by which a script names bytes.
use Rattle.std.specs.Prelude.{◌≡◌, ℕ, List, [], codes, Option, Some, IsSome, if◌then◌else◌}
use Rattle.std.specs.Str.{bytes_eq}
use Rattle.text.specs.Bytes.{hex_bytes}

-- the bytes that a word stands for, if any: `-` for none, digits for what they decode to
unfoldable pub packet_bytes : List ℕ → Option (List ℕ)
packet_bytes word = if bytes_eq word (codes "-") then Some [] else hex_bytes word

-- the word stands for bytes
abbrev pub IsPacketWord : List ℕ → Type 0
IsPacketWord word = IsSome (packet_bytes word)

-- the word stands for these bytes
abbrev pub StandsFor : List ℕ → List ℕ → Type 0
StandsFor word bytes = packet_bytes word ≡ Some bytes
