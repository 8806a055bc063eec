use Rattle.outboxes.proofs.Starting.{hosts_next, hosts_none}
use Rattle.outboxes.proofs.starts.add_hosts.Goals as goal

pub loop-number-init : goal.loop-number-init
loop-number-init c = hosts_none c.args.layout.now c.args.boxes.now.items

pub loop-number-preserved : goal.loop-number-preserved
loop-number-preserved c =
    hosts_next c.args.layout.now c.loop-number.number c.in-Some.domain c.args.boxes.now.items c.loop-number.boxes.items c.add_host.new.boxes.items
    c.loop-number.auto.number c.in-Some.ensures.1 c.loop-number.invariant c.in_ok-add_host.ensures
