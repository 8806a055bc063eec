-- An entry is read back from its text.
use Rattle.std.proofs.Common.{◌≡◌, ℕ, ◌<◌, ◌==◌, cond, refl, ap, ◌∙◌, List, ◌∷◌, ◌++◌, Option, Some, None, arith, append_assoc}
use Rattle.std.specs.Prelude.{codes, option_and_then, option_map}
use Rattle.std.specs.Fmt.{decimal}
use Rattle.std.proofs.lemmas.Bool.{cond-true, eq-eqb}
use Rattle.hex.specs.Hex.{IsBytes}
use Rattle.fab_types.specs.Texts.{id_text}
use Rattle.fab_types.specs.declared.head.Answerer.{Answerer}
use Rattle.fab_types.specs.declared.head.Parties.{Parties}
use Rattle.fab_types.specs.declared.head.Parties.TheVariants.{Upward, Downward, Answer}
use Rattle.fab_types.specs.declared.host_access.HostAccess.{HostAccess}
use Rattle.fab_types.specs.declared.host_access.Operation.{Operation}
use Rattle.fab_types.specs.declared.host_access.Operation.TheVariants.{Read, Write}
use Rattle.fab_types.specs.declared.origin.Origin.{Origin}
use Rattle.fab_types.specs.declared.place.Place.{Place}
use Rattle.fab_types.specs.declared.place.Place.TheVariants.{Outbox, Egress, Wire, Ingress}
use Rattle.text.specs.Text.{hexadecimal}
use Rattle.text.specs.Words.{IsWord}
use Rattle.text.proofs.Ids.{id_read, id_word}
use Rattle.text.proofs.WordLemmas.{first}
use Rattle.script.specs.Commands.{access_of, operation_text, submission_of}
use Rattle.script.specs.PacketWord.{packet_bytes}
use Rattle.script.proofs.PacketWords.{bytes_read}
use Rattle.domain.specs.declared.entry.Entry.{Entry}
use Rattle.domain.specs.declared.entry.Entry.TheVariants as entry
use Rattle.journal_text.specs.Fields.{access_by, addressee_of, alien_of, answer_of, entry_of, entry_of_word, parties_of, place_of}
use Rattle.journal_text.specs.Legible.{AreParties, IsAccess, IsAddressee, IsAnswerer, IsDomain, IsId, IsLegible, IsOperation, IsPlace}
use Rattle.journal_text.specs.Words.{access_text, addressee_text, answerer_text, bytes_text, entry_text, offset_text, origin_text, parties_text, place_text, way_text}
use Rattle.journal_text.proofs.FieldWords.{addressee_word, answerer_word, decimal_word, offset_word, origin_word, way_word}
use Rattle.journal_text.proofs.FieldsRead.{addressee_read, answerer_read, count_read, direction_read, domain_read, offset_read, origin_read}
use Rattle.journal_text.proofs.NumbersRead.{number_read}

-- ---- begins

submission_read : (function : ℕ) (bytes : List ℕ) → IsId function → IsBytes bytes → submission_of (id_text function ++ (32 ∷ bytes_text bytes)) ≡ Some (function, bytes)
submission_read function bytes small are =
    first (id_text function) (bytes_text bytes) (id_word function small) _
    ∙ ap (option_and_then (λ id. option_map (λ b. (id, b)) (packet_bytes (bytes_text bytes)))) (id_read function small)
    ∙ ap (option_map (λ b. (function, b))) (bytes_read bytes are)

fields_read : (word operand : List ℕ) (function offset : ℕ) (operation : Operation) → IsWord word → IsId function → offset < 4096 → operation_text word operand ≡ Some operation
    → access_of (word ++ (32 ∷ (id_text function ++ (32 ∷ (offset_text offset ++ (32 ∷ operand)))))) ≡ Some (record { function = function; offset = offset; operation = operation })
fields_read word operand function offset operation is_word small within is =
    first word _ is_word _
    ∙ first (id_text function) _ (id_word function small) _
    ∙ first (offset_text offset) operand (offset_word offset within) _
    ∙ ap (option_and_then (λ f. option_and_then (λ o. option_map (λ x. record { function = f; offset = o; operation = x }) (operation_text word operand)) (hexadecimal 3 3 (offset_text offset)))) (id_read function small)
    ∙ ap (option_and_then (λ o. option_map (λ x. record { function = function; offset = o; operation = x }) (operation_text word operand))) (offset_read offset within)
    ∙ ap (option_map (λ x. record { function = function; offset = offset; operation = x })) is

access_read : (access : HostAccess) (operation : Operation) → IsId access.function → access.offset < 4096 → IsOperation operation
    → access_of (access_text access operation) ≡ Some (record { function = access.function; offset = access.offset; operation = operation })
access_read access (Read count) small within few = fields_read (codes "read") (decimal count) access.function access.offset (Read count) refl small within (ap (option_map Read) (count_read count few))
access_read access (Write bytes) small within are = fields_read (codes "write") (bytes_text bytes) access.function access.offset (Write bytes) refl small within (ap (option_map Write) (bytes_read bytes are))

mmio_read : (domain : ℕ) (access : HostAccess) → IsDomain domain → IsAccess access → access_by domain (decimal domain ++ (32 ∷ access_text access access.operation)) ≡ Some (entry.Mmio access)
mmio_read domain access own is =
    first (decimal domain) _ (decimal_word domain (omega (arith, own.1))) _
    ∙ ap (option_and_then (λ number. cond (number == domain) (option_map entry.Mmio (access_of (access_text access access.operation))) None)) (domain_read domain own)
    ∙ cond-true (domain == domain) (option_map entry.Mmio (access_of (access_text access access.operation))) None (eq-eqb domain domain refl)
    ∙ ap (option_map entry.Mmio) (access_read access access.operation is.0 is.1 is.2)

-- ---- packets of others

-- a text of three words, which are read as this value
record IsThree {P : Type 0} (read : List ℕ → List ℕ → List ℕ → Option P) (text : List ℕ) (value : P) : Type 0 where
  a : List ℕ
  b : List ℕ
  c : List ℕ
  a_word : IsWord a
  b_word : IsWord b
  c_word : IsWord c
  joined : text ≡ a ++ (32 ∷ (b ++ (32 ∷ c)))
  is : read a b c ≡ Some value

place_three : (place : Place) → IsPlace place → IsThree place_of (place_text place) place
place_three (Outbox o) is = record { a = codes "outbox"; b = origin_text o; c = codes "-"; a_word = refl; b_word = origin_word o is; c_word = refl; joined = refl; is = ap (option_map Outbox) (origin_read o is) }
place_three (Egress d) is = record { a = codes "egress"; b = id_text d.lower; c = way_text d.way; a_word = refl; b_word = id_word d.lower is; c_word = way_word d.way; joined = refl; is = ap (option_map Egress) (direction_read d is) }
place_three (Wire d) is = record { a = codes "wire"; b = id_text d.lower; c = way_text d.way; a_word = refl; b_word = id_word d.lower is; c_word = way_word d.way; joined = refl; is = ap (option_map Wire) (direction_read d is) }
place_three (Ingress d) is = record { a = codes "ingress"; b = id_text d.lower; c = way_text d.way; a_word = refl; b_word = id_word d.lower is; c_word = way_word d.way; joined = refl; is = ap (option_map Ingress) (direction_read d is) }

answer_read : (answerer : Answerer) (x : Option Origin) → IsAnswerer answerer → IsAddressee x → answer_of (answerer_text answerer) (addressee_text x) ≡ Some (Answer answerer x)
answer_read answerer x is_by is_for =
    ap (option_and_then (λ a. option_map (Answer a) (addressee_of (addressee_text x)))) (answerer_read answerer is_by)
    ∙ ap (option_map (Answer answerer)) (addressee_read x is_for)

parties_three : (sender : Parties) → AreParties sender → IsThree parties_of (parties_text sender) sender
parties_three (Upward f) is = record { a = codes "from"; b = id_text f; c = codes "-"; a_word = refl; b_word = id_word f is; c_word = refl; joined = refl; is = ap (option_map Upward) (id_read f is) }
parties_three (Downward f) is = record { a = codes "to"; b = id_text f; c = codes "-"; a_word = refl; b_word = id_word f is; c_word = refl; joined = refl; is = ap (option_map Downward) (id_read f is) }
parties_three (Answer answerer x) is =
    record { a = codes "by"; b = answerer_text answerer; c = addressee_text x; a_word = refl; b_word = answerer_word answerer is.0; c_word = addressee_word x is.1; joined = refl; is = answer_read answerer x is.0 is.1 }

-- three words and the rest
behind_three : (a b c rest : List ℕ) → (a ++ (32 ∷ (b ++ (32 ∷ c)))) ++ (32 ∷ rest) ≡ a ++ (32 ∷ (b ++ (32 ∷ (c ++ (32 ∷ rest)))))
behind_three a b c rest =
    append_assoc a (32 ∷ (b ++ (32 ∷ c))) (32 ∷ rest)
    ∙ ap (λ (t : List ℕ). a ++ (32 ∷ t)) (append_assoc b (32 ∷ c) (32 ∷ rest))

six : (a b c d e f bytes : List ℕ) → IsWord a → IsWord b → IsWord c → IsWord d → IsWord e → IsWord f
    → alien_of (a ++ (32 ∷ (b ++ (32 ∷ (c ++ (32 ∷ (d ++ (32 ∷ (e ++ (32 ∷ (f ++ (32 ∷ bytes))))))))))))
    ≡ option_and_then (λ place. option_and_then (λ sender. option_map (entry.Alien place sender) (packet_bytes bytes)) (parties_of d e f)) (place_of a b c)
six a b c d e f bytes is_a is_b is_c is_d is_e is_f =
    first a _ is_a _ ∙ first b _ is_b _ ∙ first c _ is_c _ ∙ first d _ is_d _ ∙ first e _ is_e _ ∙ first f bytes is_f _

alien_read : (place : Place) (sender : Parties) (bytes : List ℕ) → IsPlace place → AreParties sender → IsBytes bytes
    → alien_of (place_text place ++ (32 ∷ (parties_text sender ++ (32 ∷ bytes_text bytes)))) ≡ Some (entry.Alien place sender bytes)
alien_read place sender bytes is_place are_parties are =
    let p = place_three place is_place in
    let s = parties_three sender are_parties in
    let shown : place_text place ++ (32 ∷ (parties_text sender ++ (32 ∷ bytes_text bytes))) ≡ p.a ++ (32 ∷ (p.b ++ (32 ∷ (p.c ++ (32 ∷ (s.a ++ (32 ∷ (s.b ++ (32 ∷ (s.c ++ (32 ∷ bytes_text bytes))))))))))) =
    ap (λ (t : List ℕ). t ++ (32 ∷ (parties_text sender ++ (32 ∷ bytes_text bytes)))) p.joined
    ∙ behind_three p.a p.b p.c (parties_text sender ++ (32 ∷ bytes_text bytes))
    ∙ ap (λ (t : List ℕ). p.a ++ (32 ∷ (p.b ++ (32 ∷ (p.c ++ (32 ∷ (t ++ (32 ∷ bytes_text bytes)))))))) s.joined
    ∙ ap (λ (t : List ℕ). p.a ++ (32 ∷ (p.b ++ (32 ∷ (p.c ++ (32 ∷ t)))))) (behind_three s.a s.b s.c (bytes_text bytes)) in
    ap alien_of shown
    ∙ six p.a p.b p.c s.a s.b s.c (bytes_text bytes) p.a_word p.b_word p.c_word s.a_word s.b_word s.c_word
    ∙ ap (option_and_then (λ place. option_and_then (λ sender. option_map (entry.Alien place sender) (packet_bytes (bytes_text bytes))) (parties_of s.a s.b s.c))) p.is
    ∙ ap (option_and_then (λ sender. option_map (entry.Alien place sender) (packet_bytes (bytes_text bytes)))) s.is
    ∙ ap (option_map (entry.Alien place sender)) (bytes_read bytes are)

-- ---- each entry

-- what is read behind the first word of a line
worded : (domain : ℕ) (w rest : List ℕ) → IsWord w → entry_of domain (w ++ (32 ∷ rest)) ≡ entry_of_word domain w rest
unfolding entry_of
worded domain w rest word = first w rest word (λ field. entry_of_word domain field.0 field.1)

pub entry_read : (domain : ℕ) (e : Entry) → IsDomain domain → IsLegible e → entry_of domain (entry_text domain e) ≡ Some e
entry_read domain (entry.Submit function bytes) own is = worded domain (codes "submit") (id_text function ++ (32 ∷ bytes_text bytes)) refl ∙ ap (option_map (λ s. entry.Submit s.0 s.1)) (submission_read function bytes is.0 is.1)
entry_read domain (entry.Tick function) own is = worded domain (codes "tick") (id_text function) refl ∙ ap (option_map entry.Tick) (id_read function is)
entry_read domain (entry.Mmio access) own is = worded domain (codes "mmio") (decimal domain ++ (32 ∷ access_text access access.operation)) refl ∙ mmio_read domain access own is
entry_read domain (entry.Refuse number) own is = worded domain (codes "refuse") (decimal number) refl ∙ ap (option_map entry.Refuse) (number_read number is)
entry_read domain (entry.Carry number) own is = worded domain (codes "carry") (decimal number) refl ∙ ap (option_map entry.Carry) (number_read number is)
entry_read domain (entry.Deliver number) own is = worded domain (codes "deliver") (decimal number) refl ∙ ap (option_map entry.Deliver) (number_read number is)
entry_read domain (entry.Alien place sender bytes) own is =
    worded domain (codes "alien") (place_text place ++ (32 ∷ (parties_text sender ++ (32 ∷ bytes_text bytes)))) refl ∙ alien_read place sender bytes is.0 is.1 is.2
