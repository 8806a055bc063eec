use Rattle.host_table.proofs.Indexing.{groups_read, none_in_gap}
use Rattle.host_table.proofs.table.HostTable.groups.Goals as goal

pub returns-in-Ok-clause-groups : goal.returns-in-Ok-clause-groups
returns-in-Ok-clause-groups c =
    rw (c.deref-in-Ok.ensures.value, ← c.self.view_is) (groups_read c.self.inside.lines.items c.self.inside.index.items c.self.invariant.index c.args.requester c.in-Ok.place c.index.result.now (rw c.deref.ensures.value at c.in-Ok.ensures) c.index.ensures)

pub returns-in-Err-clause-groups : goal.returns-in-Err-clause-groups
returns-in-Err-clause-groups c =
    rw (← c.self.view_is) (none_in_gap c.self.inside.lines.items c.self.inside.index.items c.self.invariant.index c.args.requester c.in-Err.field-0 (rw c.deref.ensures.value at c.in-Err.ensures))
