use Rattle.std.proofs.Common.{◌∙◌, ap, ap₂}
use Rattle.std.proofs.lemmas.Result.{IfOk-weaker}
use Rattle.clap.specs.Words.{App, with_subcommand}
use Rattle.command_line.specs.CommandLine.{commands}
use Rattle.command_line.proofs.description.definition.Goals as goal

pub returns : goal.returns
unfolding commands
returns c =
    let draw_is = c.in_ok-with_draw.ensures.shape c.in_ok-draw.ensures.1 ∙ ap₂ with_subcommand c.in_ok-with_journals.ensures (ap (λ (a : App). a.top) c.in_ok-draw.ensures.0) in
    let explain_is = c.in_ok-with_explain.ensures.shape c.in_ok-explain.ensures.1 ∙ ap₂ with_subcommand draw_is (ap (λ (a : App). a.top) c.in_ok-explain.ensures.0) in
    IfOk-weaker c.subcommand-3.result _ _
    (λ r h. h.shape c.in_ok-import.ensures.1 ∙ ap₂ with_subcommand explain_is (ap (λ (a : App). a.top) c.in_ok-import.ensures.0))
    c.subcommand-3.ensures
