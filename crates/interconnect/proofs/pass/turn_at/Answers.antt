use Rattle.std.proofs.Common.{get_or, refl}
use Rattle.interconnect.proofs.Passing.{channels_among, from_after, from_before, lengths_among, turned_among}
use Rattle.interconnect.proofs.pass.turn_at.Goals as goal

pub returns-then-input-node-clause-turned : goal.returns-then-input-node-clause-turned
returns-then-input-node-clause-turned g c =
    turned_among g.D.Desk.refuses g.D.Desk.unknown g.D.Desk.wants g.R.Reporter.is_sure c.args.bridge.now c.args.class c.turn_nodes.result
    (g.D.Desk.known c.args.desk.now) (g.D.Desk.known c.turn_nodes.new.desk) (g.R.Reporter.reported c.args.reporter.now) (g.R.Reporter.reported c.turn_nodes.new.reporter) c.args.port.now c.turn_nodes.new.port
    c.args.nodes.now _ c.args.node c.args.input (get_or c.split_at_mut-front.result.0.now c.args.input.node c.index-front-input.result) c.turn_nodes.new.from (get_or c.split_at_mut-front.result.1.now 0 c.index-back-0.result) c.turn_nodes.new.to
    (from_before c.args.nodes.now c.split_at_mut-front.result.0.now c.split_at_mut-front.result.1.now c.args.node c.args.input (get_or c.split_at_mut-front.result.0.now c.args.input.node c.index-front-input.result) c.turn_nodes.new.from (get_or c.split_at_mut-front.result.1.now 0 c.index-back-0.result) c.turn_nodes.new.to c.index-front-input.result c.index-back-0.result
    c.requires.there c.requires.node c.requires.apart c.split_at_mut-front.ensures.front c.split_at_mut-front.ensures.back refl refl c.if-input-node.true)
    c.turn_nodes.ensures.turned

pub returns-then-input-node-clause-channels : goal.returns-then-input-node-clause-channels
returns-then-input-node-clause-channels g c =
    channels_among g.D.Desk.refuses g.D.Desk.unknown g.D.Desk.wants g.R.Reporter.is_sure c.args.bridge.now c.args.class c.turn_nodes.result
    (g.D.Desk.known c.args.desk.now) (g.D.Desk.known c.turn_nodes.new.desk) (g.R.Reporter.reported c.args.reporter.now) (g.R.Reporter.reported c.turn_nodes.new.reporter) c.args.port.now c.turn_nodes.new.port
    c.args.nodes.now _ c.args.node c.args.input (get_or c.split_at_mut-front.result.0.now c.args.input.node c.index-front-input.result) c.turn_nodes.new.from (get_or c.split_at_mut-front.result.1.now 0 c.index-back-0.result) c.turn_nodes.new.to
    (from_before c.args.nodes.now c.split_at_mut-front.result.0.now c.split_at_mut-front.result.1.now c.args.node c.args.input (get_or c.split_at_mut-front.result.0.now c.args.input.node c.index-front-input.result) c.turn_nodes.new.from (get_or c.split_at_mut-front.result.1.now 0 c.index-back-0.result) c.turn_nodes.new.to c.index-front-input.result c.index-back-0.result
    c.requires.there c.requires.node c.requires.apart c.split_at_mut-front.ensures.front c.split_at_mut-front.ensures.back refl refl c.if-input-node.true)
    c.turn_nodes.ensures.turned

pub returns-then-input-node-clause-lengths : goal.returns-then-input-node-clause-lengths
returns-then-input-node-clause-lengths g c =
    lengths_among g.D.Desk.refuses g.D.Desk.unknown g.D.Desk.wants g.R.Reporter.is_sure c.args.bridge.now c.args.class c.turn_nodes.result
    (g.D.Desk.known c.args.desk.now) (g.D.Desk.known c.turn_nodes.new.desk) (g.R.Reporter.reported c.args.reporter.now) (g.R.Reporter.reported c.turn_nodes.new.reporter) c.args.port.now c.turn_nodes.new.port
    c.args.nodes.now _ c.args.node c.args.input (get_or c.split_at_mut-front.result.0.now c.args.input.node c.index-front-input.result) c.turn_nodes.new.from (get_or c.split_at_mut-front.result.1.now 0 c.index-back-0.result) c.turn_nodes.new.to
    (from_before c.args.nodes.now c.split_at_mut-front.result.0.now c.split_at_mut-front.result.1.now c.args.node c.args.input (get_or c.split_at_mut-front.result.0.now c.args.input.node c.index-front-input.result) c.turn_nodes.new.from (get_or c.split_at_mut-front.result.1.now 0 c.index-back-0.result) c.turn_nodes.new.to c.index-front-input.result c.index-back-0.result
    c.requires.there c.requires.node c.requires.apart c.split_at_mut-front.ensures.front c.split_at_mut-front.ensures.back refl refl c.if-input-node.true)
    c.turn_nodes.ensures.turned

pub returns-else-input-node-clause-turned : goal.returns-else-input-node-clause-turned
returns-else-input-node-clause-turned g c =
    turned_among g.D.Desk.refuses g.D.Desk.unknown g.D.Desk.wants g.R.Reporter.is_sure c.args.bridge.now c.args.class c.turn_nodes-else-input-node.result
    (g.D.Desk.known c.args.desk.now) (g.D.Desk.known c.turn_nodes-else-input-node.new.desk) (g.R.Reporter.reported c.args.reporter.now) (g.R.Reporter.reported c.turn_nodes-else-input-node.new.reporter) c.args.port.now c.turn_nodes-else-input-node.new.port
    c.args.nodes.now _ c.args.node c.args.input (get_or c.split_at_mut-front-else-input-node.result.1.now 0 c.index-back-0-else-input-node.result) c.turn_nodes-else-input-node.new.from (get_or c.split_at_mut-front-else-input-node.result.0.now c.args.node c.index-front-node.result) c.turn_nodes-else-input-node.new.to
    (from_after c.args.nodes.now c.split_at_mut-front-else-input-node.result.0.now c.split_at_mut-front-else-input-node.result.1.now c.args.node c.args.input (get_or c.split_at_mut-front-else-input-node.result.1.now 0 c.index-back-0-else-input-node.result) c.turn_nodes-else-input-node.new.from (get_or c.split_at_mut-front-else-input-node.result.0.now c.args.node c.index-front-node.result) c.turn_nodes-else-input-node.new.to c.index-back-0-else-input-node.result c.index-front-node.result
    c.requires.there c.requires.node c.requires.apart c.split_at_mut-front-else-input-node.ensures.front c.split_at_mut-front-else-input-node.ensures.back refl refl c.if-input-node.false)
    c.turn_nodes-else-input-node.ensures.turned

pub returns-else-input-node-clause-channels : goal.returns-else-input-node-clause-channels
returns-else-input-node-clause-channels g c =
    channels_among g.D.Desk.refuses g.D.Desk.unknown g.D.Desk.wants g.R.Reporter.is_sure c.args.bridge.now c.args.class c.turn_nodes-else-input-node.result
    (g.D.Desk.known c.args.desk.now) (g.D.Desk.known c.turn_nodes-else-input-node.new.desk) (g.R.Reporter.reported c.args.reporter.now) (g.R.Reporter.reported c.turn_nodes-else-input-node.new.reporter) c.args.port.now c.turn_nodes-else-input-node.new.port
    c.args.nodes.now _ c.args.node c.args.input (get_or c.split_at_mut-front-else-input-node.result.1.now 0 c.index-back-0-else-input-node.result) c.turn_nodes-else-input-node.new.from (get_or c.split_at_mut-front-else-input-node.result.0.now c.args.node c.index-front-node.result) c.turn_nodes-else-input-node.new.to
    (from_after c.args.nodes.now c.split_at_mut-front-else-input-node.result.0.now c.split_at_mut-front-else-input-node.result.1.now c.args.node c.args.input (get_or c.split_at_mut-front-else-input-node.result.1.now 0 c.index-back-0-else-input-node.result) c.turn_nodes-else-input-node.new.from (get_or c.split_at_mut-front-else-input-node.result.0.now c.args.node c.index-front-node.result) c.turn_nodes-else-input-node.new.to c.index-back-0-else-input-node.result c.index-front-node.result
    c.requires.there c.requires.node c.requires.apart c.split_at_mut-front-else-input-node.ensures.front c.split_at_mut-front-else-input-node.ensures.back refl refl c.if-input-node.false)
    c.turn_nodes-else-input-node.ensures.turned

pub returns-else-input-node-clause-lengths : goal.returns-else-input-node-clause-lengths
returns-else-input-node-clause-lengths g c =
    lengths_among g.D.Desk.refuses g.D.Desk.unknown g.D.Desk.wants g.R.Reporter.is_sure c.args.bridge.now c.args.class c.turn_nodes-else-input-node.result
    (g.D.Desk.known c.args.desk.now) (g.D.Desk.known c.turn_nodes-else-input-node.new.desk) (g.R.Reporter.reported c.args.reporter.now) (g.R.Reporter.reported c.turn_nodes-else-input-node.new.reporter) c.args.port.now c.turn_nodes-else-input-node.new.port
    c.args.nodes.now _ c.args.node c.args.input (get_or c.split_at_mut-front-else-input-node.result.1.now 0 c.index-back-0-else-input-node.result) c.turn_nodes-else-input-node.new.from (get_or c.split_at_mut-front-else-input-node.result.0.now c.args.node c.index-front-node.result) c.turn_nodes-else-input-node.new.to
    (from_after c.args.nodes.now c.split_at_mut-front-else-input-node.result.0.now c.split_at_mut-front-else-input-node.result.1.now c.args.node c.args.input (get_or c.split_at_mut-front-else-input-node.result.1.now 0 c.index-back-0-else-input-node.result) c.turn_nodes-else-input-node.new.from (get_or c.split_at_mut-front-else-input-node.result.0.now c.args.node c.index-front-node.result) c.turn_nodes-else-input-node.new.to c.index-back-0-else-input-node.result c.index-front-node.result
    c.requires.there c.requires.node c.requires.apart c.split_at_mut-front-else-input-node.ensures.front c.split_at_mut-front-else-input-node.ensures.back refl refl c.if-input-node.false)
    c.turn_nodes-else-input-node.ensures.turned
