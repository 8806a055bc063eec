use Rattle.std.proofs.Common.{◌∙◌, ap, ap₂}
use Rattle.std.proofs.lemmas.Result.{IfOk-weaker}
use Rattle.clap.specs.Words.{App, with_subcommand}
use Rattle.command_line.specs.CommandLine.{journal_commands}
use Rattle.command_line.proofs.description.with_journals.Goals as goal

pub returns : goal.returns
unfolding journal_commands
returns c =
    let journal_is = c.in_ok-with_journal.ensures.shape c.in_ok-journal.ensures.1 ∙ ap₂ with_subcommand c.in_ok-with_runs.ensures (ap (λ (a : App). a.top) c.in_ok-journal.ensures.0) in
    let replay_is = c.in_ok-with_replay.ensures.shape c.in_ok-replay.ensures.1 ∙ ap₂ with_subcommand journal_is (ap (λ (a : App). a.top) c.in_ok-replay.ensures.0) in
    IfOk-weaker c.subcommand-3.result _ _
    (λ r h. h.shape c.in_ok-threads.ensures.1 ∙ ap₂ with_subcommand replay_is (ap (λ (a : App). a.top) c.in_ok-threads.ensures.0))
    c.subcommand-3.ensures
