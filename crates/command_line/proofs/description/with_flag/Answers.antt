use Rattle.std.proofs.Common.{rules, ◌≡◌, ◌∙◌, ap₂, false}
use Rattle.std.specs.Prelude.{◌||◌}
use Rattle.std.proofs.lemmas.Result.{IfOk-weaker}
use Rattle.clap.specs.Words.{rule_of, with_rule}
use Rattle.command_line.specs.CommandLine.{flag_rule}
use Rattle.command_line.proofs.description.with_flag.Goals as goal

pub returns : goal.returns
returns c = λ app is.
    let rule_is : rule_of c.help-word.result ≡ flag_rule c.args.name.now = search rules in
    let local : c.help-word.result.global ≡ false = search rules in
    IfOk-weaker c.arg.result _ _
    (λ r h. (h.shape local ∙ ap₂ with_rule is.0 rule_is, h.globals ∙ ap₂ (λ x y. x || y) is.1 local))
    c.arg.ensures
