use Rattle.link.specs.Channels.{update_fc}
use Rattle.interconnect.proofs.Reaching.{moved, reached, same_lengths}
use Rattle.interconnect.proofs.outputs.update_fc_at.Goals as goal

pub returns-clause-moved : goal.returns-clause-moved
returns-clause-moved c =
    let there = reached c.args.nodes.now c.args.end c.node.inside.outputs.items c.index-nodes-end.result c.index_mut.result.now c.requires c.node.view_is c.index_mut.ensures.value in
    moved c.args.nodes.now c.args.end c.node.inside.outputs.items c.index_mut.result.now there update_fc c.update_fc.result c.update_fc.new.self c.update_fc.ensures

pub returns-clause-outputs : goal.returns-clause-outputs
returns-clause-outputs c =
    let there = reached c.args.nodes.now c.args.end c.node.inside.outputs.items c.index-nodes-end.result c.index_mut.result.now c.requires c.node.view_is c.index_mut.ensures.value in
    same_lengths c.args.nodes.now c.args.end c.node.inside.outputs.items c.index_mut.result.now there c.update_fc.new.self
