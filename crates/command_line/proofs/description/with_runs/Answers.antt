use Rattle.std.proofs.Common.{◌≡◌, ◌∙◌, ap, ap₂, true}
use Rattle.std.proofs.lemmas.Result.{IfOk-weaker}
use Rattle.clap.specs.Words.{App, app_of, new_app, with_subcommand}
use Rattle.clap.specs.Simple.{app_of_fields}
use Rattle.command_line.specs.CommandLine.{program, run_commands}
use Rattle.command_line.proofs.description.with_runs.Goals as goal

abbrev required : App → App
required a = record a { top = record a.top { subcommand_required = true } }

abbrev unnamed : App → App
unnamed a = record a { top = record a.top { no_binary_name = true } }

pub returns : goal.returns
unfolding run_commands
returns c =
    let named_is : app_of c.in_ok-bin_name.field-0 ≡ unnamed (new_app _) =
    ap app_of_fields c.in_ok-bin_name.ensures.0 ∙ (ap app_of_fields c.no_binary_name.ensures ∙ ap unnamed c.new.ensures.app) in
    let told_is : app_of c.after_help.result ≡ app_of c.in_ok-bin_name.field-0 =
    ap app_of_fields c.after_help.ensures ∙ ap app_of_fields c.about.ensures in
    let program_is : app_of c.subcommand_required-program.result ≡ program =
    ap app_of_fields c.subcommand_required-program.ensures ∙ ap required (told_is ∙ named_is) in
    let first_is = c.in_ok-with_first.ensures.shape c.in_ok-first.ensures.1 ∙ ap₂ with_subcommand program_is (ap (λ (a : App). a.top) c.in_ok-first.ensures.0) in
    let run_is = c.in_ok-with_run.ensures.shape c.in_ok-run.ensures.1 ∙ ap₂ with_subcommand first_is (ap (λ (a : App). a.top) c.in_ok-run.ensures.0) in
    IfOk-weaker c.subcommand-3.result _ _
    (λ r h. h.shape c.in_ok-alone.ensures.1 ∙ ap₂ with_subcommand run_is (ap (λ (a : App). a.top) c.in_ok-alone.ensures.0))
    c.subcommand-3.ensures
