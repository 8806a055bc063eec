use Rattle.std.specs.Prelude.{codes}
use Rattle.clap.specs.Words.{new_app, with_rule}
use Rattle.command_line.specs.CommandLine.{option_rule, word_rule}
use Rattle.command_line.proofs.description.import_definition.Goals as goal

pub returns : goal.returns
returns c =
    let plain = new_app (codes "import") in
    let dump = with_rule plain (word_rule (codes "DUMP")) in
    let owners = with_rule dump (option_rule (codes "owners")) in
    let root = with_rule owners (option_rule (codes "root")) in
    c.with_flag.ensures root (c.in_ok-with_root.ensures owners (c.in_ok-with_owners.ensures dump (c.in_ok-with_dump.ensures plain c.subcommand-plain.ensures)))
