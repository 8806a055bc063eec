use Rattle.std.specs.Prelude.{codes}
use Rattle.clap.specs.Words.{new_app, with_rule}
use Rattle.command_line.specs.CommandLine.{option_rule, word_rule}
use Rattle.command_line.proofs.description.explain_definition.Goals as goal

pub returns : goal.returns
returns c =
    let plain = new_app (codes "explain") in
    let layout = with_rule plain (word_rule (codes "LAYOUT")) in
    let scripts = with_rule layout (option_rule (codes "scripts")) in
    c.with_flag.ensures scripts (c.in_ok-with_scripts.ensures layout (c.in_ok-with_layout.ensures plain c.subcommand-plain.ensures))
