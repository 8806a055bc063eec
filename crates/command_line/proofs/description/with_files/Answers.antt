use Rattle.clap.specs.Words.{new_app, with_rule}
use Rattle.std.specs.Prelude.{codes}
use Rattle.command_line.specs.CommandLine.{word_rule}
use Rattle.command_line.proofs.description.with_files.Goals as goal

pub returns : goal.returns
returns c =
    let plain = new_app c.args.name.now in
    c.with_word-2.ensures (with_rule plain (word_rule (codes "LAYOUT"))) (c.in_ok-with_layout.ensures plain c.subcommand-plain.ensures)
