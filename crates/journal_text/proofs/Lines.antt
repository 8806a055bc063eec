-- What is written has no line feed in it.
use Rattle.std.proofs.Common.{◌≡◌, ℕ, zero, suc, ◌-◌, ◌/◌, ◌%◌, ◌<◌, ◌^◌, ◌==◌, Bool, true, false, cond, refl, subst, sym, List, [], ◌∷◌, ◌++◌, length, Option, Some, None, arith}
use Rattle.std.specs.Prelude.{codes, replicate}
use Rattle.std.specs.Fmt.{decimal, digit_glyph, digits, digits_onto, format_spec, number_padding, padded_integral}
use Rattle.std.specs.List.{flat_map, list_all}
use Rattle.std.proofs.lemmas.Bool.{and_from, cond-false}
use Rattle.std.proofs.lemmas.Bool.Decides.{nat_tests}
use Rattle.hex.specs.Hex.{IsBytes, encode_lower}
use Rattle.fab_types.specs.Faults.{malformed_name}
use Rattle.fab_types.specs.Id.{bus_of, device_of, function_of}
use Rattle.fab_types.specs.Texts.{byte_text, id_text}
use Rattle.fab_types.specs.declared.faults.malformed.Malformed.{Malformed}
use Rattle.fab_types.specs.declared.faults.malformed.Malformed.TheVariants as malformed
use Rattle.fab_types.specs.declared.head.Parties.{Parties}
use Rattle.fab_types.specs.declared.head.Parties.TheVariants.{Upward, Downward, Answer}
use Rattle.fab_types.specs.declared.host_access.HostAccess.{HostAccess}
use Rattle.fab_types.specs.declared.host_access.Operation.{Operation}
use Rattle.fab_types.specs.declared.host_access.Operation.TheVariants.{Read, Write}
use Rattle.fab_types.specs.declared.place.Place.{Place}
use Rattle.fab_types.specs.declared.place.Place.TheVariants.{Outbox, Egress, Wire, Ingress}
use Rattle.fab_types.specs.declared.status.Status.{Status}
use Rattle.fab_types.specs.declared.status.Status.TheVariants.{SC, UR, CRS, CA}
use Rattle.tlp_view.specs.Bytes.{packet_of}
use Rattle.tlp_view.specs.Malformed as tlp
use Rattle.tlp_view.specs.Packet.{Packet, address_in, status_in}
use Rattle.tlp_view.specs.declared.kind.Kind.{Kind}
use Rattle.tlp_view.specs.declared.kind.Kind.TheVariants.{MRd, MRdLk, MWr, IORd, IOWr, CfgRd0, CfgWr0, CfgRd1, CfgWr1, Msg, MsgD, Cpl, CplD, CplLk, CplDLk, FetchAdd, Swap, CAS}
use Rattle.text.specs.Bytes.{is_lower_digit}
use Rattle.text.proofs.BytesRead.{digits_lower}
use Rattle.text.proofs.Ids.{id_word}
use Rattle.text.proofs.LineLemmas.{IsLine, is_inline, line_of, line_of_word, lines_joined}
use Rattle.reports.specs.Report.{status_name}
use Rattle.domain.specs.declared.entry.Entry.{Entry}
use Rattle.domain.specs.declared.entry.Entry.TheVariants as entry
use Rattle.journal_text.specs.Legible.{AreParties, IsDomain, IsId, IsLegible, IsOperation, IsPlace}
use Rattle.journal_text.specs.Notes.{bytes_are, end_text, in_flight_text, kind_name, note_head, note_text, number_word, packet_head}
use Rattle.journal_text.specs.Words.{access_text, addressee_text, answerer_text, bytes_text, entry_text, offset_text, origin_text, parties_text, place_text, way_text}
use Rattle.journal_text.proofs.FieldWords.{addressee_word, answerer_word, decimal_word, offset_word, origin_word, way_word}

-- ---- entries

lower_inline : (b : ℕ) → is_lower_digit b ≡ true → is_inline b ≡ true
lower_inline b h = grind (arith, nat_tests)

bytes_line : (bytes : List ℕ) → IsBytes bytes → IsLine (bytes_text bytes)
bytes_line [] are = refl
bytes_line (b ∷ bytes) are =
    let more : (length (b ∷ bytes) == 0) ≡ false = grind (arith, nat_tests) in
    subst IsLine (sym (cond-false (length (b ∷ bytes) == 0) (codes "-") (encode_lower (b ∷ bytes)) more))
    (line_of is_lower_digit lower_inline (encode_lower (b ∷ bytes)) (digits_lower (b ∷ bytes) are))

place_line : (place : Place) → IsPlace place → IsLine (place_text place)
place_line (Outbox o) is = lines_joined (origin_text o) (codes " -") (line_of_word (origin_text o) (origin_word o is)) refl
place_line (Egress d) is = lines_joined (id_text d.lower) (32 ∷ way_text d.way) (line_of_word (id_text d.lower) (id_word d.lower is)) (line_of_word (way_text d.way) (way_word d.way))
place_line (Wire d) is = lines_joined (id_text d.lower) (32 ∷ way_text d.way) (line_of_word (id_text d.lower) (id_word d.lower is)) (line_of_word (way_text d.way) (way_word d.way))
place_line (Ingress d) is = lines_joined (id_text d.lower) (32 ∷ way_text d.way) (line_of_word (id_text d.lower) (id_word d.lower is)) (line_of_word (way_text d.way) (way_word d.way))

parties_line : (sender : Parties) → AreParties sender → IsLine (parties_text sender)
parties_line (Upward f) is = lines_joined (id_text f) (codes " -") (line_of_word (id_text f) (id_word f is)) refl
parties_line (Downward f) is = lines_joined (id_text f) (codes " -") (line_of_word (id_text f) (id_word f is)) refl
parties_line (Answer answerer x) is =
    lines_joined (answerer_text answerer) (32 ∷ addressee_text x) (line_of_word (answerer_text answerer) (answerer_word answerer is.0)) (line_of_word (addressee_text x) (addressee_word x is.1))

operand_line : (access : HostAccess) (operand : List ℕ) → IsId access.function → access.offset < 4096 → IsLine operand → IsLine (id_text access.function ++ (32 ∷ (offset_text access.offset ++ (32 ∷ operand))))
operand_line access operand small within line =
    lines_joined (id_text access.function) (32 ∷ (offset_text access.offset ++ (32 ∷ operand))) (line_of_word (id_text access.function) (id_word access.function small))
    (lines_joined (offset_text access.offset) (32 ∷ operand) (line_of_word (offset_text access.offset) (offset_word access.offset within)) line)

access_line : (access : HostAccess) (operation : Operation) → IsId access.function → access.offset < 4096 → IsOperation operation → IsLine (access_text access operation)
access_line access (Read count) small within few = operand_line access (decimal count) small within (line_of_word (decimal count) (decimal_word count (omega (arith, few))))
access_line access (Write bytes) small within are = operand_line access (bytes_text bytes) small within (bytes_line bytes are)

number_line : (n : ℕ) → n < 2 ^ 64 → IsLine (decimal n)
number_line n small = line_of_word (decimal n) (decimal_word n small)

pub entry_is_line : (domain : ℕ) (e : Entry) → IsDomain domain → IsLegible e → IsLine (entry_text domain e)
entry_is_line domain (entry.Submit function bytes) own is = lines_joined (id_text function) (32 ∷ bytes_text bytes) (line_of_word (id_text function) (id_word function is.0)) (bytes_line bytes is.1)
entry_is_line domain (entry.Tick function) own is = line_of_word (id_text function) (id_word function is)
entry_is_line domain (entry.Mmio access) own is = lines_joined (decimal domain) (32 ∷ access_text access access.operation) (number_line domain (omega (arith, own.1))) (access_line access access.operation is.0 is.1 is.2)
entry_is_line domain (entry.Refuse number) own is = number_line number is
entry_is_line domain (entry.Carry number) own is = number_line number is
entry_is_line domain (entry.Deliver number) own is = number_line number is
entry_is_line domain (entry.Alien place sender bytes) own is =
    lines_joined (place_text place) (32 ∷ (parties_text sender ++ (32 ∷ bytes_text bytes))) (place_line place is.0)
    (lines_joined (parties_text sender) (32 ∷ bytes_text bytes) (parties_line sender is.1) (bytes_line bytes is.2))

-- ---- comments, of whatever bytes

glyph_inline : (d : ℕ) → is_inline (digit_glyph false d) ≡ true
glyph_inline d = grind (arith, nat_tests)

either_line : (test : Bool) (x y : List ℕ) → IsLine x → IsLine y → IsLine (cond test x y)
either_line true x y hx hy = hx
either_line false x y hx hy = hy

digits_onto_line : (k base n : ℕ) (behind : List ℕ) → IsLine behind → IsLine (digits_onto k base false n behind)
digits_onto_line zero base n behind h = h
digits_onto_line (suc k) base n behind h =
    let glyph = digit_glyph false (n % base) in
    let one : IsLine (glyph ∷ behind) = and_from (is_inline glyph) (list_all is_inline behind) (glyph_inline (n % base)) h in
    either_line (n / base == 0) (glyph ∷ behind) (digits_onto k base false (n / base) (glyph ∷ behind)) one (digits_onto_line k base (n / base) (glyph ∷ behind) one)

digits_line : (base n : ℕ) → IsLine (digits base false n)
unfolding digits
digits_line base n = digits_onto_line 64 base n [] refl

decimal_line : (n : ℕ) → IsLine (decimal n)
decimal_line n = digits_line 10 n

zeros_line : (n : ℕ) → IsLine (replicate n 48)
zeros_line zero = refl
zeros_line (suc n) = zeros_line n

byte_line : (n : ℕ) → IsLine (byte_text n)
unfolding padded_integral
byte_line n =
    let numeral = digits 16 false n in
    lines_joined (replicate (number_padding (format_spec 32 0 4 2 (2 ^ 64 - 1)) false [] (length numeral)) 48) (numeral ++ [])
    (zeros_line (number_padding (format_spec 32 0 4 2 (2 ^ 64 - 1)) false [] (length numeral))) (lines_joined numeral [] (digits_line 16 n) refl)

id_line : (id : ℕ) → IsLine (id_text id)
id_line id =
    lines_joined (byte_text (bus_of id) ++ codes ":" ++ byte_text (device_of id) ++ codes ".") (decimal (function_of id))
    (lines_joined (byte_text (bus_of id) ++ codes ":" ++ byte_text (device_of id)) (codes ".")
    (lines_joined (byte_text (bus_of id) ++ codes ":") (byte_text (device_of id)) (lines_joined (byte_text (bus_of id)) (codes ":") (byte_line (bus_of id)) refl) (byte_line (device_of id))) refl)
    (decimal_line (function_of id))

kind_line : (kind : Kind) → IsLine (kind_name kind)
kind_line MRd = refl
kind_line MRdLk = refl
kind_line MWr = refl
kind_line IORd = refl
kind_line IOWr = refl
kind_line CfgRd0 = refl
kind_line CfgWr0 = refl
kind_line CfgRd1 = refl
kind_line CfgWr1 = refl
kind_line Msg = refl
kind_line MsgD = refl
kind_line Cpl = refl
kind_line CplD = refl
kind_line CplLk = refl
kind_line CplDLk = refl
kind_line FetchAdd = refl
kind_line Swap = refl
kind_line CAS = refl

status_line : (status : Status) → IsLine (status_name status)
status_line SC = refl
status_line UR = refl
status_line CRS = refl
status_line CA = refl

cause_line : (cause : Malformed) → IsLine (malformed_name cause)
cause_line malformed.Short = refl
cause_line malformed.Kind = refl
cause_line malformed.Size = refl
cause_line malformed.Enables = refl
cause_line malformed.Crosses = refl
cause_line malformed.HighForm = refl
cause_line malformed.Field = refl

end_line : (address : Option ℕ) (status : Option Status) → IsLine (end_text address status)
end_line (Some address) status = digits_line 16 address
end_line None (Some status) = status_line status
end_line None None = refl

head_line : (p : Packet) → IsLine (packet_head p)
head_line p =
    lines_joined (kind_name p.kind) (codes " requester " ++ (id_text p.requester ++ (codes " tag " ++ byte_text p.tag))) (kind_line p.kind)
    (lines_joined (id_text p.requester) (codes " tag " ++ byte_text p.tag) (id_line p.requester) (byte_line p.tag))

bytes_are_line : (cause : Option Malformed) (p : Packet) → IsLine (bytes_are cause p)
bytes_are_line None p = lines_joined (packet_head p) (end_text (address_in p.body) (status_in p.body)) (head_line p) (end_line (address_in p.body) (status_in p.body))
bytes_are_line (Some cause) p = cause_line cause

pub note_is_line : (number : ℕ) (bytes : List ℕ) → IsLine (note_text number bytes)
note_is_line number bytes =
    lines_joined (note_head number) (bytes_are (tlp.malformed bytes) (packet_of bytes)) (lines_joined (decimal number) (codes ": ") (decimal_line number) refl)
    (bytes_are_line (tlp.malformed bytes) (packet_of bytes))

-- ---- what is in flight

numbers_line : (numbers : List ℕ) → IsLine (flat_map number_word numbers)
numbers_line [] = refl
numbers_line (n ∷ numbers) = lines_joined (decimal n) (flat_map number_word numbers) (decimal_line n) (numbers_line numbers)

pub in_flight_is_line : (numbers : List ℕ) → IsLine (in_flight_text numbers)
in_flight_is_line numbers = numbers_line numbers
