use Rattle.std.proofs.Common.{rules, ◌≡◌, []}
use Rattle.std.specs.Prelude.{IfSome, string_bytes}
use Rattle.import.specs.Reasons.{why_words}
use Rattle.import.proofs.Printed.{none_printable}
use Rattle.import.proofs.comments.words_of.Goals as goal

pub returns-else-is_printable-clause-words : goal.returns-else-is_printable-clause-words
returns-else-is_printable-clause-words c =
    let said : IfSome (why_words c.args.why.now) (λ own. string_bytes c.in_ok-words.words ≡ own) = search rules in
    let empty : string_bytes c.new.result ≡ [] = search rules in
    none_printable c.args.why.now (string_bytes c.in_ok-words.words) (string_bytes c.new.result) empty said (search rules)
