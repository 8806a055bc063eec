-- What is printed is words.
use Rattle.std.proofs.Common.{◌≡◌, ℕ, ◌+◌, ◌/◌, ◌%◌, ◌<◌, ◌≤◌, ◌^◌, true, false, refl, subst, sym, ap, ◌∙◌, List, [], ◌∷◌, ◌++◌, Option, Some, None, arith}
use Rattle.std.specs.Fmt.{decimal, digit_glyph}
use Rattle.std.proofs.lemmas.Bool.{and_from}
use Rattle.std.proofs.lemmas.Fmt.{decimal_by_steps, hex_byte, hex_one_digit}
use Rattle.fab_types.specs.Texts.{byte_text}
use Rattle.fab_types.specs.declared.head.Answerer.{Answerer}
use Rattle.fab_types.specs.declared.head.Answerer.TheVariants as by
use Rattle.fab_types.specs.declared.origin.Origin.{Origin}
use Rattle.fab_types.specs.declared.origin.Origin.TheVariants as origin
use Rattle.fab_types.specs.declared.place.Way.{Way}
use Rattle.fab_types.specs.declared.place.Way.TheVariants.{Up, Down}
use Rattle.text.specs.Words.{IsWord, is_inner}
use Rattle.text.proofs.Ids.{digit_inner, glyph_inner, id_word}
use Rattle.text.proofs.WordLemmas.{words_joined}
use Rattle.journal_text.specs.Legible.{IsAddressee, IsAnswerer, IsOrigin}
use Rattle.journal_text.specs.Words.{addressee_text, answerer_text, offset_text, origin_text, way_text}

one_word : (c : ℕ) → is_inner c ≡ true → IsWord (c ∷ [])
one_word c inner = and_from (is_inner c) true inner refl

decimal_one : (n : ℕ) → n < 10 → IsWord ((48 + n) ∷ [])
decimal_one n small = one_word (48 + n) (digit_inner n small)

decimal_more : (n : ℕ) (ds : List ℕ) → 10 ≤ n → IsWord ds → IsWord (ds ++ ((48 + n % 10) ∷ []))
decimal_more n ds big front = words_joined ds ((48 + n % 10) ∷ []) front (one_word (48 + n % 10) (digit_inner (n % 10) (omega arith)))

pub decimal_word : (n : ℕ) → n < 2 ^ 64 → IsWord (decimal n)
decimal_word n small = decimal_by_steps (λ n ds. IsWord ds) decimal_one decimal_more n small

pub offset_spelled : (n : ℕ) → n < 4096 → offset_text n ≡ digit_glyph false (n / 256) ∷ digit_glyph false (n % 256 / 16) ∷ digit_glyph false (n % 256 % 16) ∷ []
offset_spelled n small =
    ap (λ (high : List ℕ). high ++ byte_text (n % 256)) (hex_one_digit false (n / 256) (omega (arith, small)))
    ∙ ap (λ (low : List ℕ). digit_glyph false (n / 256) ∷ low) (hex_byte false (n % 256) (omega arith))

pub offset_word : (n : ℕ) → n < 4096 → IsWord (offset_text n)
offset_word n small =
    subst IsWord (sym (offset_spelled n small))
    (and_from _ _ (glyph_inner (n / 256)) (and_from _ _ (glyph_inner (n % 256 / 16)) (and_from _ _ (glyph_inner (n % 256 % 16)) refl)))

pub origin_word : (o : Origin) → IsOrigin o → IsWord (origin_text o)
origin_word (origin.Function function) small = id_word function small
origin_word (origin.Host domain) are = decimal_word domain (omega (arith, are.1))

pub way_word : (w : Way) → IsWord (way_text w)
way_word Up = refl
way_word Down = refl

pub answerer_word : (a : Answerer) → IsAnswerer a → IsWord (answerer_text a)
answerer_word by.Port is = refl
answerer_word by.Host is = refl
answerer_word (by.Function function) small = id_word function small

pub addressee_word : (x : Option Origin) → IsAddressee x → IsWord (addressee_text x)
addressee_word None is = refl
addressee_word (Some o) is = origin_word o is
