use Rattle.std.proofs.Common.{◌∙◌}
use Rattle.findings_text.proofs.Groups.{groups_written}
use Rattle.findings_text.proofs.linux.write_linux.Goals as goal

pub returns : goal.returns
returns g c =
    groups_written c.args.layout.now c.args.remarks.now.names c.args.findings.now c.deref.result.now c.deref-2.result.now _ _ _ (c.deref.ensures.value ∙ c.in_ok-members.ensures)
    (c.deref-2.ensures.value ∙ c.in_ok-members.ensures) c.in_ok-write_groups.ensures c.in_ok-write_all_apart.ensures
