-- The text of a layout's line has no line feed, and is no comment.
use Rattle.std.proofs.Common.{◌≡◌, Bool, true, false, refl}
use Rattle.text.specs.Text.{is_comment}
use Rattle.text.specs.Words.{IsWord}
use Rattle.text.proofs.Ids.{id_word}
use Rattle.text.proofs.LineLemmas.{IsLine, lines_joined}
use Rattle.layout_line.specs.declared.lines.TargetText.{TargetText}
use Rattle.layout_line.specs.declared.lines.TargetText.TheVariants as target
use Rattle.layout_line.specs.declared.lines.LayoutLine.{LayoutLine}
use Rattle.layout_line.specs.declared.lines.LayoutLine.TheVariants.{Frames, Root, Switch, Port, Function, Map, Budget, Credit, Egress}
use Rattle.text_writers.specs.LayoutLineTexts.{fields_of, first_word, layout_line_text, rights_name, target_kind, target_name}
use Rattle.text_writers.specs.LineRanges.{IsInRange, IsTarget}
use Rattle.text_writers.specs.Words.{more_words}
use Rattle.text_writers.proofs.lines.Digits.{digits_word, hex_word}
use Rattle.text_writers.proofs.lines.Lines.{AreWords, words_are_line}

pub kind_word : (t : TargetText) → IsWord (target_kind t)
kind_word (target.Frame frame) = refl
kind_word (target.Peer peer) = refl

pub name_word : (t : TargetText) → IsTarget t → IsWord (target_name t)
name_word (target.Frame frame) few = digits_word 10 frame
name_word (target.Peer peer) small = id_word peer small

rights_word : (read write : Bool) → IsWord (rights_name read write)
rights_word true true = refl
rights_word true false = refl
rights_word false true = refl
rights_word false false = refl

first_is_line : (line : LayoutLine) → IsLine (first_word line)
first_is_line (Frames count) = refl
first_is_line (Root id) = refl
first_is_line (Switch switch) = refl
first_is_line (Port port) = refl
first_is_line (Function function) = refl
first_is_line (Map line) = refl
first_is_line (Budget budget) = refl
first_is_line (Credit credit) = refl
first_is_line (Egress egress) = refl

fields_are_words : (line : LayoutLine) → IsInRange line → AreWords (fields_of line)
fields_are_words (Frames count) is = (digits_word 10 count, tt)
fields_are_words (Root id) is = (id_word id is, (refl, tt))
fields_are_words (Switch switch) is = (id_word switch.id is.0, (id_word switch.above is.1, tt))
fields_are_words (Port port) is =
    (id_word port.id is.id, (hex_word 2 port.secondary, (hex_word 2 port.subordinate, (hex_word 8 port.base, (hex_word 8 port.limit, (hex_word 2 port.controls, (digits_word 10 port.owner, tt)))))))
fields_are_words (Function function) is = (id_word function.id is.0, (hex_word 8 function.bar, tt))
fields_are_words (Map line) is =
    (id_word line.requester is.requester, (digits_word 16 line.page, (kind_word line.target, (name_word line.target is.target, (rights_word line.rights.read line.rights.write, tt)))))
fields_are_words (Budget budget) is = (digits_word 10 budget.domain, (digits_word 10 budget.begins, tt))
fields_are_words (Credit credit) is = (
  id_word credit.id is.id,
  (
    digits_word 10 credit.posted_headers,
    (
      digits_word 10 credit.posted_data,
      (
        digits_word 10 credit.non_posted_headers,
        (digits_word 10 credit.non_posted_data, (digits_word 10 credit.completion_headers, (digits_word 10 credit.completion_data, tt))),
      ),
    ),
  ),
)
fields_are_words (Egress egress) is = (id_word egress.port is.0, (hex_word 8 egress.vector, tt))

pub layout_line_is_line : (line : LayoutLine) → IsInRange line → IsLine (layout_line_text line)
layout_line_is_line line is = lines_joined (first_word line) (more_words (fields_of line)) (first_is_line line) (words_are_line (fields_of line) (fields_are_words line is))

pub no_comment : (line : LayoutLine) → is_comment (layout_line_text line) ≡ false
no_comment (Frames count) = refl
no_comment (Root id) = refl
no_comment (Switch switch) = refl
no_comment (Port port) = refl
no_comment (Function function) = refl
no_comment (Map line) = refl
no_comment (Budget budget) = refl
no_comment (Credit credit) = refl
no_comment (Egress egress) = refl
