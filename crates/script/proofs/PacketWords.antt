-- Bytes are read back from their word: their digits, or `-` for none.
use Rattle.std.proofs.Common.{◌≡◌, ℕ, ◌%◌, ◌<◌, ◌==◌, ◌&&◌, Bool, true, false, refl, ap, ◌∙◌, List, [], ◌∷◌, length, Some, arith}
use Rattle.std.specs.Prelude.{codes, if◌then◌else◌}
use Rattle.std.specs.Str.{bytes_eq}
use Rattle.std.proofs.lemmas.Bool.{cond-false}
use Rattle.std.proofs.lemmas.Bool.Decides.{nat_tests}
use Rattle.hex.specs.Hex.{IsBytes, encode_lower, lower_digits}
use Rattle.hex.proofs.HexLemmas.{length-encode_with}
use Rattle.text.specs.Bytes.{hex_bytes}
use Rattle.text.proofs.BytesRead.{hex_read}
use Rattle.script.specs.PacketWord.{packet_bytes}

-- no digits are the word for no bytes, which is one character long
not_none : (word : List ℕ) → length word % 2 ≡ 0 → bytes_eq word (codes "-") ≡ false
not_none [] even = refl
not_none (a ∷ []) even = absurd (omega (arith, even))
not_none (a ∷ b ∷ rest) even = go (a == 45)
  where
    go : (x : Bool) → (x && false) ≡ false
    go true = refl
    go false = refl

some_read : (bytes : List ℕ) → IsBytes bytes → 0 < length bytes → packet_bytes (encode_lower bytes) ≡ Some bytes
unfolding packet_bytes
some_read bytes are some =
    let twice = length-encode_with lower_digits bytes in
    cond-false (bytes_eq (encode_lower bytes) (codes "-")) (Some []) (hex_bytes (encode_lower bytes)) (not_none (encode_lower bytes) (omega (arith, twice)))
    ∙ hex_read bytes are some

none_read : packet_bytes (codes "-") ≡ Some []
unfolding packet_bytes
none_read = refl

pub bytes_read : (bytes : List ℕ) → IsBytes bytes → packet_bytes (if length bytes == 0 then codes "-" else encode_lower bytes) ≡ Some bytes
bytes_read [] are = none_read
bytes_read (b ∷ bytes) are =
    let more : (length (b ∷ bytes) == 0) ≡ false = grind (arith, nat_tests) in
    ap packet_bytes (cond-false (length (b ∷ bytes) == 0) (codes "-") (encode_lower (b ∷ bytes)) more) ∙ some_read (b ∷ bytes) are (omega arith)
