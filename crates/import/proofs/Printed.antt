-- What comments have is printable.
use Rattle.std.proofs.Common.{◌≡◌, ℕ, zero, suc, length, ◌-◌, ◌/◌, ◌%◌, ◌<◌, ◌^◌, ◌==◌, Bool, true, false, cond, List, [], ◌∷◌, ◌++◌, replicate, Option, Some, None, refl, ap, ◌∙◌, arith}
use Rattle.std.specs.Prelude.{IfSome, IsAscii, codes, slice_index}
use Rattle.std.specs.Fmt.{decimal, digit_glyph, digits, digits_onto, format_spec, number_padding, padded_integral}
use Rattle.std.specs.List.{list_all}
use Rattle.std.proofs.lemmas.Bool.{and_from, and_parts}
use Rattle.std.proofs.lemmas.Bool.Decides.{nat_tests}
use Rattle.std.proofs.lemmas.List.Folds.{list_all-append}
use Rattle.fab_types.specs.Id.{bus_of, device_of, function_of}
use Rattle.fab_types.specs.Texts.{byte_text, id_text}
use Rattle.lspci.specs.declared.lines.Location.{Location}
use Rattle.text_writers.specs.Comments.{IsPrintable, is_printable}
use Rattle.import.specs.declared.reason.MachineId.{MachineId}
use Rattle.import.specs.declared.reason.Reason.{Reason}
use Rattle.import.specs.declared.reason.Reason.TheVariants as reason
use Rattle.import.specs.declared.reason.Why.{Why}
use Rattle.import.specs.Reasons.{reason_words, why_words, words_behind}
use Rattle.lspci.specs.Lines.{location_text}

pub joined : (front back : List ℕ) → IsPrintable front → IsPrintable back → IsPrintable (front ++ back)
joined front back one other = list_all-append is_printable front back ∙ and_from (list_all is_printable front) (list_all is_printable back) one other

-- ---- numbers

glyph : (d : ℕ) → d < 16 → is_printable (digit_glyph false d) ≡ true
glyph d small = grind (arith, nat_tests)

either : (test : Bool) (one other : List ℕ) → IsPrintable one → IsPrintable other → IsPrintable (cond test one other)
either true one other h k = h
either false one other h k = k

module _ (base : ℕ) (low : (n : ℕ) → n % base < 16) where
  onto : (k n : ℕ) (behind : List ℕ) → IsPrintable behind → IsPrintable (digits_onto k base false n behind)
  onto zero n behind h = h
  onto (suc k) n behind h =
      let digit = digit_glyph false (n % base) in
      let one : IsPrintable (digit ∷ behind) = and_from (is_printable digit) (list_all is_printable behind) (glyph (n % base) (low n)) h in
      either (n / base == 0) (digit ∷ behind) (digits_onto k base false (n / base) (digit ∷ behind)) one (onto k (n / base) (digit ∷ behind) one)

hex : (n : ℕ) → IsPrintable (digits 16 false n)
unfolding digits
hex n = onto 16 (λ m. omega arith) 64 n [] refl

number : (n : ℕ) → IsPrintable (decimal n)
unfolding digits
number n = onto 10 (λ m. omega arith) 64 n [] refl

zeros : (n : ℕ) → IsPrintable (replicate n 48)
zeros zero = refl
zeros (suc n) = zeros n

padded : (width : ℕ) (numeral : List ℕ) → IsPrintable numeral → IsPrintable (padded_integral (format_spec 32 0 4 width (2 ^ 64 - 1)) false [] numeral)
unfolding padded_integral
padded width numeral h =
    let missing = number_padding (format_spec 32 0 4 width (2 ^ 64 - 1)) false [] (length numeral) in
    joined (replicate missing 48) (numeral ++ []) (zeros missing) (joined numeral [] h refl)

-- ---- locations

byte : (n : ℕ) → IsPrintable (byte_text n)
byte n = padded 2 (digits 16 false n) (hex n)

id_printable : (id : ℕ) → IsPrintable (id_text id)
id_printable id =
    let bus = byte_text (bus_of id) in
    let device = byte_text (device_of id) in
    let front : IsPrintable (bus ++ codes ":") = joined bus (codes ":") (byte (bus_of id)) refl in
    let more : IsPrintable (bus ++ codes ":" ++ device) = joined (bus ++ codes ":") device front (byte (device_of id)) in
    let dotted : IsPrintable (bus ++ codes ":" ++ device ++ codes ".") = joined (bus ++ codes ":" ++ device) (codes ".") more refl in
    joined (bus ++ codes ":" ++ device ++ codes ".") (decimal (function_of id)) dotted (number (function_of id))

pub location_printable : (location : Location) → IsPrintable (location_text location)
location_printable location =
    let segment = digits 16 false location.segment in
    joined (padded_integral (format_spec 32 0 4 4 (2 ^ 64 - 1)) false [] segment) (codes ":" ++ id_text location.id) (padded 4 segment (hex location.segment)) (id_printable location.id)

-- ---- texts

small : (c : ℕ) → is_printable c ≡ true → c < 128
small c h = grind (arith, nat_tests)

ascii_before : (b : ℕ) (words : List ℕ) → b < 128 → IsAscii words → IsAscii (b ∷ words)
ascii_before b words one rest = λ i. go i
  where
    go : (i : ℕ) → slice_index (b ∷ words) i < 128
    go zero = one
    go (suc i) = rest i

-- printable characters are ASCII
pub is_ascii : (words : List ℕ) → IsPrintable words → IsAscii words
is_ascii [] h = λ i. omega arith
is_ascii (b ∷ words) h =
    let parts = and_parts (is_printable b) (list_all is_printable words) h in
    ascii_before b words (small b parts.0) (is_ascii words parts.1)

-- ---- why a device has no place

abbrev IfPrintable : Option (List ℕ) → Type 0
IfPrintable words = IfSome words IsPrintable

reason_printable : (r : Reason) → IfPrintable (reason_words r)
reason_printable reason.Segment = refl
reason_printable reason.OtherRoot = refl
reason_printable reason.Kind = refl
reason_printable reason.Conventional = refl
reason_printable reason.Virtual = refl
reason_printable reason.Outside = refl
reason_printable reason.Above = refl
reason_printable reason.Integrated = refl
reason_printable reason.Unreached = refl
reason_printable reason.Function = refl
reason_printable reason.Buses = refl
reason_printable reason.Window = refl
reason_printable reason.Page = refl
reason_printable (reason.Rule cause) = tt

behind_printable : (port : Option MachineId) (words : Option (List ℕ)) → IfPrintable words → IfPrintable (words_behind port words)
behind_printable None words h = h
behind_printable (Some port) None h = tt
behind_printable (Some port) (Some words) h =
    let location : Location = record { segment = port.segment; id = port.bits } in
    let place = location_text location ++ (codes ", has no place: " ++ words) in
    joined (codes "the port above it, ") place refl (joined (location_text location) (codes ", has no place: " ++ words) (location_printable location) (joined (codes ", has no place: ") words refl h))

-- where words that are the own ones aren't printable there are none
unless_printable : (own : Option (List ℕ)) (words none : List ℕ) → none ≡ [] → IfPrintable own → IfSome own (λ w. words ≡ w) → list_all is_printable words ≡ false → IfSome own (λ w. none ≡ w)
unless_printable None words none empty h e not_so = tt
unless_printable (Some w) words none empty h e not_so = let yes : list_all is_printable words ≡ true = ap (list_all is_printable) e ∙ h in absurd cc

pub none_printable : (why : Why) (words none : List ℕ) → none ≡ [] → IfSome (why_words why) (λ own. words ≡ own) → list_all is_printable words ≡ false → IfSome (why_words why) (λ own. none ≡ own)
none_printable why words none empty = unless_printable (why_words why) words none empty (behind_printable why.port (reason_words why.reason) (reason_printable why.reason))
