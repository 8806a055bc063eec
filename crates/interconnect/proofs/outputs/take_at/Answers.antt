use Rattle.interconnect.proofs.Reaching.{reached, restores, same_lengths, taken}
use Rattle.interconnect.proofs.outputs.take_at.Goals as goal

pub returns-clause-taken : goal.returns-clause-taken
returns-clause-taken c =
    let there = reached c.args.nodes.now c.args.end c.node.inside.outputs.items c.index-nodes-end.result c.index_mut.result.now c.requires c.node.view_is c.index_mut.ensures.value in
    taken c.args.nodes.now c.args.end c.node.inside.outputs.items c.index_mut.result.now there c.args.class c.take.result c.take.new.self c.take.ensures.lane c.take.ensures.taken

pub returns-clause-restores : goal.returns-clause-restores
returns-clause-restores c =
    let there = reached c.args.nodes.now c.args.end c.node.inside.outputs.items c.index-nodes-end.result c.index_mut.result.now c.requires c.node.view_is c.index_mut.ensures.value in
    restores c.args.nodes.now c.args.end c.node.inside.outputs.items c.index_mut.result.now there c.take.result c.take.new.self c.take.ensures.restores

pub returns-clause-outputs : goal.returns-clause-outputs
returns-clause-outputs c =
    let there = reached c.args.nodes.now c.args.end c.node.inside.outputs.items c.index-nodes-end.result c.index_mut.result.now c.requires c.node.view_is c.index_mut.ensures.value in
    same_lengths c.args.nodes.now c.args.end c.node.inside.outputs.items c.index_mut.result.now there c.take.new.self
