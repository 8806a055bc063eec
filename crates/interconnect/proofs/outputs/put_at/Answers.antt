use Rattle.interconnect.proofs.Reaching.{put, reached, same_lengths}
use Rattle.interconnect.proofs.outputs.put_at.Goals as goal

pub returns-clause-put : goal.returns-clause-put
returns-clause-put c =
    let there = reached c.args.nodes.now c.args.end c.node.inside.outputs.items c.index-nodes-end.result c.index_mut.result.now c.requires.end c.node.view_is c.index_mut.ensures.value in
    put c.args.nodes.now c.args.end c.node.inside.outputs.items c.index_mut.result.now there c.put.new.self c.args.frame c.put.ensures.channel

pub returns-clause-outputs : goal.returns-clause-outputs
returns-clause-outputs c =
    let there = reached c.args.nodes.now c.args.end c.node.inside.outputs.items c.index-nodes-end.result c.index_mut.result.now c.requires.end c.node.view_is c.index_mut.ensures.value in
    same_lengths c.args.nodes.now c.args.end c.node.inside.outputs.items c.index_mut.result.now there c.put.new.self
