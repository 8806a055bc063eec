use Rattle.std.specs.List.{flat_map}
use Rattle.fabric_core.specs.Stations.{events_at}
use Rattle.sweeps.proofs.Cutting.{leads_cut, leads_cut_next, leads_cut_start, told}
use Rattle.sweeps.proofs.Running.{leads_end, leads_last, leads_next, leads_start}
use Rattle.sweeps.proofs.sweep.sweeps.Goals as goal

pub loop-init : goal.loop-init
loop-init c =
    let events = flat_map events_at c.args.stations.now in
    (leads_start events c.args.most c.args.fabric.now, leads_cut_start events c.args.most c.args.fabric.now)

pub returns-in_err-moved-clause-cut_short : goal.returns-in_err-moved-clause-cut_short
returns-in_err-moved-clause-cut_short c =
    told _ (leads_cut (flat_map events_at c.args.stations.now) c.args.most c.args.fabric.now c.loop.fabric c.sweep.new.fabric c.loop.counter c.loop-test.true c.loop.invariant.1 c.in_err-moved.ensures.cut_short)

pub returns-then-not-moved-clause-made : goal.returns-then-not-moved-clause-made
returns-then-not-moved-clause-made c =
    leads_last (flat_map events_at c.args.stations.now) c.args.most c.args.fabric.now c.loop.fabric c.sweep.new.fabric c.loop.counter c.in_ok-moved.moved c.loop-test.true c.if-not-moved.true c.loop.invariant.0 c.in_ok-moved.ensures.made

pub loop-preserved : goal.loop-preserved
loop-preserved c =
    let events = flat_map events_at c.args.stations.now in (
      leads_next events c.args.most c.args.fabric.now c.loop.fabric c.sweep.new.fabric c.loop.counter c.in_ok-moved.moved c.loop-test.true c.if-not-moved.false c.loop.invariant.0 c.in_ok-moved.ensures.made,
      leads_cut_next events c.args.most c.args.fabric.now c.loop.fabric c.sweep.new.fabric c.loop.counter c.in_ok-moved.moved c.loop-test.true c.if-not-moved.false c.loop.invariant.1 c.in_ok-moved.ensures.made,
    )

pub returns-clause-made : goal.returns-clause-made
returns-clause-made c = leads_end (flat_map events_at c.args.stations.now) c.args.most c.args.fabric.now c.loop.fabric c.loop.counter c.loop-test.false c.loop.invariant.0
