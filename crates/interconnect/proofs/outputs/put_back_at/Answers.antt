use Rattle.interconnect.proofs.Reaching.{reached, restored, same_lengths}
use Rattle.interconnect.proofs.outputs.put_back_at.Goals as goal

pub returns-clause-waiting : goal.returns-clause-waiting
returns-clause-waiting c =
    let there = reached c.args.nodes.now c.args.end c.node.inside.outputs.items c.index-nodes-end.result c.index_mut.result.now c.requires.end c.node.view_is c.index_mut.ensures.value in
    restored c.args.nodes.now c.args.end c.node.inside.outputs.items c.index_mut.result.now there c.args.frame c.put_back.new.self c.put_back.ensures.lane c.put_back.ensures.waiting

pub returns-clause-outputs : goal.returns-clause-outputs
returns-clause-outputs c =
    let there = reached c.args.nodes.now c.args.end c.node.inside.outputs.items c.index-nodes-end.result c.index_mut.result.now c.requires.end c.node.view_is c.index_mut.ensures.value in
    same_lengths c.args.nodes.now c.args.end c.node.inside.outputs.items c.index_mut.result.now there c.put_back.new.self
