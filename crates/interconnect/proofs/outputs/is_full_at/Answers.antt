use Rattle.interconnect.proofs.Reaching.{reached, same_lengths, unchanged}
use Rattle.interconnect.proofs.outputs.is_full_at.Goals as goal

pub returns-clause-same : goal.returns-clause-same
returns-clause-same c =
    let there = reached c.args.nodes.now c.args.end c.node.inside.outputs.items c.index-nodes-end.result c.index_mut.result.now c.requires c.node.view_is c.index_mut.ensures.value in
    unchanged c.args.nodes.now c.args.end c.node.inside.outputs.items c.index_mut.result.now there c.is_full.new.self c.is_full.ensures.channel

pub returns-clause-outputs : goal.returns-clause-outputs
returns-clause-outputs c =
    let there = reached c.args.nodes.now c.args.end c.node.inside.outputs.items c.index-nodes-end.result c.index_mut.result.now c.requires c.node.view_is c.index_mut.ensures.value in
    same_lengths c.args.nodes.now c.args.end c.node.inside.outputs.items c.index_mut.result.now there c.is_full.new.self
