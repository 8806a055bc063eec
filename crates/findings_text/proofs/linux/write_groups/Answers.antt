use Rattle.reports.proofs.Writing.{lines_next}
use Rattle.findings_text.specs.Linux.{group_lines}
use Rattle.findings_text.proofs.linux.write_groups.Goals as goal

pub loop-member-preserved : goal.loop-member-preserved
loop-member-preserved g c =
    lines_next (group_lines c.args.remarks.now.names c.args.members.now) c.args.members.now c.loop-member.member-index c.member-item.result _ _ _ c.loop-member-test.true c.member-item.is c.loop-member.invariant c.in_ok-write_group_of.ensures
