-- Each command is read back from its line, which has no line feed and is no comment.
use Rattle.std.proofs.Common.{◌≡◌, ℕ, ◌<◌, ◌≤◌, ◌^◌, ◌==◌, ◌&&◌, true, false, cond, refl, ap, ◌∙◌, subst, sym, List, [], ◌∷◌, ◌++◌, length, Option, Some, None, nat_le, arith}
use Rattle.std.specs.Prelude.{codes, option_and_then, option_map}
use Rattle.std.specs.Fmt.{decimal}
use Rattle.std.specs.List.{list_all}
use Rattle.std.proofs.lemmas.Bool.{and_from, and_parts, cond-false, cond-true, le-leb}
use Rattle.std.proofs.lemmas.Bool.Decides.{nat_tests}
use Rattle.std.proofs.lemmas.List.{append-nil}
use Rattle.hex.specs.Hex.{IsBytes, encode_lower}
use Rattle.fab_types.specs.Texts.{id_text}
use Rattle.fab_types.specs.declared.host_access.HostAccess.{HostAccess}
use Rattle.fab_types.specs.declared.host_access.Operation.{Operation}
use Rattle.fab_types.specs.declared.host_access.Operation.TheVariants.{Read, Write}
use Rattle.text.specs.Bytes.{is_lower_digit}
use Rattle.text.specs.Text as text
use Rattle.text.specs.Words.{IsWord, is_inner}
use Rattle.text.proofs.BytesRead.{digits_lower}
use Rattle.text.proofs.Ids.{id_read, id_word}
use Rattle.text.proofs.LineLemmas.{IsLine, lines_joined}
use Rattle.text.proofs.WordLemmas.{first}
use Rattle.script.specs.Commands.{access_of, access_text, command_of, command_of_word, decimal_within, mmio_text, operation_text, submission_of, submit_text, sweep_text}
use Rattle.script.specs.PacketWord.{packet_bytes}
use Rattle.script.specs.declared.lines.Command.{Command}
use Rattle.script.specs.declared.lines.Command.TheVariants.{Submit, Tick, Mmio, Sweep}
use Rattle.script.proofs.PacketWords.{bytes_read}
use Rattle.text_writers.specs.LineRanges.{IsId}
use Rattle.text_writers.specs.Words.{hex_text, more_words}
use Rattle.text_writers.proofs.lines.Digits.{count_read, digits_word, hex_read, hex_word}
use Rattle.text_writers.proofs.lines.Lines.{AreWords, words_are_line}
use Rattle.text_writers.specs.CommandTexts.{access_fields, bytes_name, command_text, fields_of, first_word, operand_name, operation_kind}
use Rattle.text_writers.specs.CommandRanges.{IsAccess, IsInRange, IsOperation}

-- ---- fields

within_read : (least most n : ℕ) → least ≤ n → n ≤ most → n < 10 ^ 9 → decimal_within least most (decimal n) ≡ Some n
within_read least most n low high few =
    ap (option_and_then (λ m. cond (nat_le least m && nat_le m most) (Some m) None)) (count_read n few)
    ∙ cond-true _ (Some n) None (and_from _ _ (le-leb least n low) (le-leb n most high))

kind_word : (operation : Operation) → IsWord (operation_kind operation)
kind_word (Read count) = refl
kind_word (Write bytes) = refl

lower_inner : (b : ℕ) → is_lower_digit b ≡ true → is_inner b ≡ true
lower_inner b h = grind (arith, nat_tests)

lower_word : (digits : List ℕ) → list_all is_lower_digit digits ≡ true → IsWord digits
lower_word [] h = refl
lower_word (b ∷ digits) h =
    let parts = and_parts (is_lower_digit b) (list_all is_lower_digit digits) h in
    and_from (is_inner b) (list_all is_inner digits) (lower_inner b parts.0) (lower_word digits parts.1)

bytes_word : (bytes : List ℕ) → IsBytes bytes → IsWord (bytes_name bytes)
bytes_word [] are = refl
bytes_word (b ∷ bytes) are =
    let more : (length (b ∷ bytes) == 0) ≡ false = grind (arith, nat_tests) in
    subst IsWord (sym (cond-false (length (b ∷ bytes) == 0) (codes "-") (encode_lower (b ∷ bytes)) more)) (lower_word (encode_lower (b ∷ bytes)) (digits_lower (b ∷ bytes) are))

operand_word : (operation : Operation) → IsOperation operation → IsWord (operand_name operation)
operand_word (Read count) few = digits_word 10 count
operand_word (Write bytes) are = bytes_word bytes are

operation_read : (operation : Operation) → IsOperation operation → operation_text (operation_kind operation) (operand_name operation) ≡ Some operation
operation_read (Read count) few = ap (option_map Read) (count_read count few)
operation_read (Write bytes) are = ap (option_map Write) (bytes_read bytes are)

-- ---- each form

abbrev with_bytes : List ℕ → ℕ → Option (ℕ × List ℕ)
with_bytes bytes function = option_map (λ b. (function, b)) (packet_bytes bytes)

submission_read : (function : ℕ) (bytes : List ℕ) → IsId function → IsBytes bytes → submission_of (id_text function ++ more_words (bytes_name bytes ∷ [])) ≡ Some (function, bytes)
submission_read function bytes small are =
    first (id_text function) (bytes_name bytes ++ []) (id_word function small) _
    ∙ ap (λ (b : List ℕ). option_and_then (with_bytes b) (text.id_at (id_text function))) (append-nil (bytes_name bytes))
    ∙ ap (option_and_then (with_bytes (bytes_name bytes))) (id_read function small)
    ∙ ap (option_map (λ b. (function, b))) (bytes_read bytes are)

submit_read : (function : ℕ) (bytes : List ℕ) → IsId function → IsBytes bytes → submit_text (id_text function ++ more_words (bytes_name bytes ∷ [])) ≡ Some (Submit function bytes)
submit_read function bytes small are = ap (option_map (λ s. Submit s.0 s.1)) (submission_read function bytes small are)

access_words : (a b c d : List ℕ) → IsWord a → IsWord b → IsWord c → access_of (a ++ more_words (b ∷ c ∷ d ∷ [])) ≡ access_text a b c d
access_words a b c d is_a is_b is_c = first a _ is_a _ ∙ first b _ is_b _ ∙ first c _ is_c _ ∙ ap (access_text a b c) (append-nil d)

access_are : (a b c d : List ℕ) (access : HostAccess) → text.id_at b ≡ Some access.function → text.hexadecimal 3 3 c ≡ Some access.offset → operation_text a d ≡ Some access.operation
    → access_text a b c d ≡ Some access
access_are a b c d access is_b is_c is_d =
    ap (option_and_then (λ f. option_and_then (λ o. option_map (λ x. record { function = f; offset = o; operation = x }) (operation_text a d)) (text.hexadecimal 3 3 c))) is_b
    ∙ ap (option_and_then (λ o. option_map (λ x. record { function = access.function; offset = o; operation = x }) (operation_text a d))) is_c
    ∙ ap (option_map (λ x. record { function = access.function; offset = access.offset; operation = x })) is_d

access_read : (access : HostAccess) → IsAccess access → access_of (operation_kind access.operation ++ more_words (id_text access.function ∷ hex_text 3 access.offset ∷ operand_name access.operation ∷ [])) ≡ Some access
access_read access is =
    access_words (operation_kind access.operation) (id_text access.function) (hex_text 3 access.offset) (operand_name access.operation)
    (kind_word access.operation) (id_word access.function is.function) (hex_word 3 access.offset)
    ∙ access_are (operation_kind access.operation) (id_text access.function) (hex_text 3 access.offset) (operand_name access.operation) access
    (id_read access.function is.function) (hex_read 3 access.offset (omega (arith, is.offset))) (operation_read access.operation is.operation)

mmio_read : (domain : ℕ) (access : HostAccess) → 1 ≤ domain → domain ≤ 31 → IsAccess access → mmio_text (decimal domain ++ more_words (access_fields access)) ≡ Some (Mmio domain access)
mmio_read domain access low high is =
    first (decimal domain) _ (digits_word 10 domain) _
    ∙ ap (option_and_then (λ number. option_map (Mmio number) (access_of (operation_kind access.operation ++ more_words (id_text access.function ∷ hex_text 3 access.offset ∷ operand_name access.operation ∷ []))))) (within_read 1 31 domain low high (omega (arith, high)))
    ∙ ap (option_map (Mmio domain)) (access_read access is)

-- ---- each command

worded : (w rest : List ℕ) → IsWord w → command_of (w ++ (32 ∷ rest)) ≡ command_of_word w rest
unfolding command_of
worded w rest word = first w rest word (λ field. command_of_word field.0 field.1)

pub command_read : (command : Command) → IsInRange command → command_of (command_text command) ≡ Some command
command_read (Submit function bytes) is = worded (codes "submit") _ refl ∙ submit_read function bytes is.0 is.1
command_read (Tick function) is = worded (codes "tick") _ refl ∙ ap (λ (t : List ℕ). option_map Tick (text.id_at t)) (append-nil (id_text function)) ∙ ap (option_map Tick) (id_read function is)
command_read (Mmio domain access) is = worded (codes "mmio") _ refl ∙ mmio_read domain access is.0 is.1 is.2
command_read (Sweep turns) is =
    worded (codes "sweep") _ refl
    ∙ ap sweep_text (append-nil (decimal turns))
    ∙ ap (option_map Sweep) (within_read 1 1000000 turns is.0 is.1 (omega (arith, is.1)))

-- ---- lines

first_is_line : (command : Command) → IsLine (first_word command)
first_is_line (Submit function bytes) = refl
first_is_line (Tick function) = refl
first_is_line (Mmio domain access) = refl
first_is_line (Sweep turns) = refl

fields_are_words : (command : Command) → IsInRange command → AreWords (fields_of command)
fields_are_words (Submit function bytes) is = (id_word function is.0, (bytes_word bytes is.1, tt))
fields_are_words (Tick function) is = (id_word function is, tt)
fields_are_words (Mmio domain access) is =
    (digits_word 10 domain, (kind_word access.operation, (id_word access.function is.2.function, (hex_word 3 access.offset, (operand_word access.operation is.2.operation, tt)))))
fields_are_words (Sweep turns) is = (digits_word 10 turns, tt)

pub command_is_line : (command : Command) → IsInRange command → IsLine (command_text command)
command_is_line command is = lines_joined (first_word command) (more_words (fields_of command)) (first_is_line command) (words_are_line (fields_of command) (fields_are_words command is))

pub no_comment : (command : Command) → text.is_comment (command_text command) ≡ false
no_comment (Submit function bytes) = refl
no_comment (Tick function) = refl
no_comment (Mmio domain access) = refl
no_comment (Sweep turns) = refl
