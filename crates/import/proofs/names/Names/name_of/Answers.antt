use Rattle.std.proofs.Common.{◌≡◌, rules, subst, sym}
use Rattle.std.specs.Prelude.{IfOk, string_bytes}
use Rattle.std.proofs.lemmas.Result.{IfOk-weaker}
use Rattle.lspci.specs.Lines.{location_text}
use Rattle.text_writers.specs.Comments.{IsPrintable}
use Rattle.import.proofs.Printed.{location_printable}
use Rattle.import.proofs.names.Names.name_of.Goals as goal

pub returns-in_default-clause-printable : goal.returns-in_default-clause-printable
returns-in_default-clause-printable c =
    let place = location_text c.args.location.now in
    let said : IfOk c.format.result (λ text. string_bytes text ≡ place) = search rules in
    IfOk-weaker c.format.result (λ text. string_bytes text ≡ place) (λ text. IsPrintable (string_bytes text)) (λ text is. subst IsPrintable (sym is) (location_printable c.args.location.now)) said
