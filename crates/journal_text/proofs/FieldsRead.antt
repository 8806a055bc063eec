-- The fields of a line are read back.
use Rattle.std.proofs.Common.{◌≡◌, ℕ, ◌+◌, ◌*◌, ◌/◌, ◌%◌, ◌<◌, ◌^◌, ◌==◌, ◌&&◌, Bool, true, false, cond, refl, ap, ◌∙◌, List, [], ◌∷◌, length, take, drop, Option, Some, None, nat_le, arith}
use Rattle.std.specs.Prelude.{codes, option_and_then, option_map}
use Rattle.std.specs.Fmt.{decimal, digit_glyph}
use Rattle.std.specs.Str.{bytes_eq}
use Rattle.std.proofs.lemmas.Bool.{and_from, cond-false, cond-true, le-leb}
use Rattle.std.proofs.lemmas.Fmt.{decimal_nonempty, length-decimal-le}
use Rattle.fab_types.specs.Id.{bus_of, device_of, function_of}
use Rattle.fab_types.specs.Texts.{id_text}
use Rattle.fab_types.specs.declared.head.Answerer.{Answerer}
use Rattle.fab_types.specs.declared.head.Answerer.TheVariants as by
use Rattle.fab_types.specs.declared.origin.Origin.{Origin}
use Rattle.fab_types.specs.declared.origin.Origin.TheVariants as origin
use Rattle.fab_types.specs.declared.place.Direction.{Direction}
use Rattle.fab_types.specs.declared.place.Way.{Way}
use Rattle.fab_types.specs.declared.place.Way.TheVariants.{Up, Down}
use Rattle.text.specs.Text as text
use Rattle.text.proofs.Ids.{glyph_read, id_read, spelled}
use Rattle.script.specs.Commands.{domain_text}
use Rattle.journal_text.specs.Fields.{addressee_of, answerer_of, direction_of, origin_of, way_of}
use Rattle.journal_text.specs.Legible.{IsAddressee, IsAnswerer, IsDomain, IsId, IsOrigin}
use Rattle.journal_text.specs.Words.{addressee_text, answerer_text, offset_text, origin_text, way_text}
use Rattle.journal_text.proofs.FieldWords.{offset_spelled}
use Rattle.journal_text.proofs.NumbersRead.{digits_spelled}

-- ---- numbers

pub count_read : (n : ℕ) → n < 10 ^ 9 → text.decimal (decimal n) ≡ Some n
unfolding text.decimal
count_read n small =
    let some = decimal_nonempty n (omega (arith, small)) in
    let few = length-decimal-le 9 n (omega arith) small (omega (arith, small)) in
    cond-true _ _ None (and_from _ _ (le-leb 1 (length (decimal n)) (omega (arith, some))) (le-leb (length (decimal n)) 9 few)) ∙ digits_spelled n (omega (arith, small))

abbrev fits : ℕ → Option ℕ
fits n = cond (nat_le 1 n && nat_le n 31) (Some n) None

pub domain_read : (d : ℕ) → IsDomain d → domain_text (decimal d) ≡ Some d
domain_read d are =
    ap (option_and_then fits) (count_read d (omega (arith, are.1)))
    ∙ cond-true _ (Some d) None (and_from _ _ (le-leb 1 d are.0) (le-leb d 31 are.1))

three_digits : (a b c x y z : ℕ) → text.hex_digit a ≡ Some x → text.hex_digit b ≡ Some y → text.hex_digit c ≡ Some z
    → text.hexadecimal 3 3 (a ∷ b ∷ c ∷ []) ≡ Some (((0 * 16 + x) * 16 + y) * 16 + z)
unfolding text.hexadecimal
three_digits a b c x y z is_a is_b is_c = rw is_a (rw is_b (rw is_c refl))

pub offset_read : (n : ℕ) → n < 4096 → text.hexadecimal 3 3 (offset_text n) ≡ Some n
offset_read n small =
    let same : ((0 * 16 + n / 256) * 16 + n % 256 / 16) * 16 + n % 256 % 16 ≡ n = omega arith in
    ap (text.hexadecimal 3 3) (offset_spelled n small)
    ∙ three_digits (digit_glyph false (n / 256)) (digit_glyph false (n % 256 / 16)) (digit_glyph false (n % 256 % 16)) (n / 256) (n % 256 / 16) (n % 256 % 16)
    (glyph_read (n / 256) (omega (arith, small))) (glyph_read (n % 256 / 16) (omega arith)) (glyph_read (n % 256 % 16) (omega arith))
    ∙ ap (λ (m : ℕ). Some m) same

-- ---- an ID is none of these words

and_none : (x : Bool) → (x && false) ≡ false
and_none true = refl
and_none false = refl

-- its third character is a colon
third_differs : (word : List ℕ) (id : ℕ) → IsId id → ((a b c d e : ℕ) → bytes_eq (a ∷ b ∷ 58 ∷ c ∷ d ∷ 46 ∷ e ∷ []) word ≡ false) → bytes_eq (id_text id) word ≡ false
third_differs word id small each =
    ap (λ (t : List ℕ). bytes_eq t word) (spelled id small)
    ∙ each (digit_glyph false (bus_of id / 16)) (digit_glyph false (bus_of id % 16)) (digit_glyph false (device_of id / 16)) (digit_glyph false (device_of id % 16)) (48 + function_of id)

no_port : (a b c d e : ℕ) → bytes_eq (a ∷ b ∷ 58 ∷ c ∷ d ∷ 46 ∷ e ∷ []) (codes "port") ≡ false
no_port a b c d e = ap (λ (x : Bool). (a == 112) && x) (and_none (b == 111)) ∙ and_none (a == 112)

no_host : (a b c d e : ℕ) → bytes_eq (a ∷ b ∷ 58 ∷ c ∷ d ∷ 46 ∷ e ∷ []) (codes "host") ≡ false
no_host a b c d e = ap (λ (x : Bool). (a == 104) && x) (and_none (b == 111)) ∙ and_none (a == 104)

no_dash : (a b c d e : ℕ) → bytes_eq (a ∷ b ∷ 58 ∷ c ∷ d ∷ 46 ∷ e ∷ []) (codes "-") ≡ false
no_dash a b c d e = and_none (a == 45)

no_host_first : (a b c d : ℕ) → bytes_eq (a ∷ b ∷ 58 ∷ c ∷ []) (codes "host") ≡ false
no_host_first a b c d = ap (λ (x : Bool). (a == 104) && x) (and_none (b == 111)) ∙ and_none (a == 104)

begins_no_host : (id : ℕ) → IsId id → bytes_eq (take 4 (id_text id)) (codes "host") ≡ false
begins_no_host id small =
    ap (λ (t : List ℕ). bytes_eq (take 4 t) (codes "host")) (spelled id small)
    ∙ no_host_first (digit_glyph false (bus_of id / 16)) (digit_glyph false (bus_of id % 16)) (digit_glyph false (device_of id / 16)) 0

-- ---- who and where

pub origin_read : (o : Origin) → IsOrigin o → origin_of (origin_text o) ≡ Some o
origin_read (origin.Function function) small =
    cond-false (bytes_eq (take 4 (id_text function)) (codes "host")) (option_map origin.Host (domain_text (drop 4 (id_text function)))) (option_map origin.Function (text.id_at (id_text function))) (begins_no_host function small)
    ∙ ap (option_map origin.Function) (id_read function small)
origin_read (origin.Host domain) are = ap (option_map origin.Host) (domain_read domain are)

pub way_read : (w : Way) → way_of (way_text w) ≡ Some w
way_read Up = refl
way_read Down = refl

pub direction_read : (d : Direction) → IsId d.lower → direction_of (id_text d.lower) (way_text d.way) ≡ Some d
direction_read d small =
    ap (option_and_then (λ lower. option_map (λ way. record { lower = lower; way = way }) (way_of (way_text d.way)))) (id_read d.lower small)
    ∙ ap (option_map (λ way. record { lower = d.lower; way = way })) (way_read d.way)

pub answerer_read : (a : Answerer) → IsAnswerer a → answerer_of (answerer_text a) ≡ Some a
answerer_read by.Port is = refl
answerer_read by.Host is = refl
answerer_read (by.Function function) small =
    let word = id_text function in
    cond-false (bytes_eq word (codes "port")) (Some by.Port) (cond (bytes_eq word (codes "host")) (Some by.Host) (option_map by.Function (text.id_at word))) (third_differs (codes "port") function small no_port)
    ∙ cond-false (bytes_eq word (codes "host")) (Some by.Host) (option_map by.Function (text.id_at word)) (third_differs (codes "host") function small no_host)
    ∙ ap (option_map by.Function) (id_read function small)

pub addressee_read : (x : Option Origin) → IsAddressee x → addressee_of (addressee_text x) ≡ Some x
addressee_read None is = refl
addressee_read (Some (origin.Function function)) small =
    cond-false (bytes_eq (id_text function) (codes "-")) (Some None) (option_map Some (origin_of (id_text function))) (third_differs (codes "-") function small no_dash)
    ∙ ap (option_map Some) (origin_read (origin.Function function) small)
addressee_read (Some (origin.Host domain)) are = ap (option_map Some) (origin_read (origin.Host domain) are)
