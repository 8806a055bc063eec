use Rattle.std.proofs.Common.{map}
use Rattle.std.specs.List.{flat_map}
use Rattle.fabric_core.specs.Stations.{events_at}
use Rattle.sweeps.specs.Asleep.{station_of}
use Rattle.sweeps.proofs.Cutting.{leads_cut, leads_cut_next, leads_cut_start, told}
use Rattle.sweeps.proofs.Running.{leads_last, leads_next, leads_start}
use Rattle.sweeps.proofs.sweeper.sweep_up_to.Goals as goal

pub loop-init : goal.loop-init
loop-init c =
    let events = flat_map events_at (map station_of c.args.watchpoints.now) in record {
      leads = leads_start events c.args.most c.args.fabric.now;
      leads_cut = leads_cut_start events c.args.most c.args.fabric.now;
      asleep = c.requires.asleep;
    }

pub returns-in_err-moved-clause-cut_short : goal.returns-in_err-moved-clause-cut_short
returns-in_err-moved-clause-cut_short c =
    told _ (leads_cut (flat_map events_at (map station_of c.args.watchpoints.now)) c.args.most c.args.fabric.now c.loop.fabric c.sweep.new.fabric c.loop.counter c.loop-test.true c.loop.invariant.leads_cut c.in_err-moved.ensures.cut_short)

pub returns-then-not-moved-clause-made : goal.returns-then-not-moved-clause-made
returns-then-not-moved-clause-made c =
    leads_last (flat_map events_at (map station_of c.args.watchpoints.now)) c.args.most c.args.fabric.now c.loop.fabric c.sweep.new.fabric c.loop.counter c.in_ok-moved.moved c.loop-test.true c.if-not-moved.true c.loop.invariant.leads c.in_ok-moved.ensures.made

pub loop-preserved : goal.loop-preserved
loop-preserved c =
    let events = flat_map events_at (map station_of c.args.watchpoints.now) in record {
      leads = leads_next events c.args.most c.args.fabric.now c.loop.fabric c.sweep.new.fabric c.loop.counter c.in_ok-moved.moved c.loop-test.true c.if-not-moved.false c.loop.invariant.leads c.in_ok-moved.ensures.made;
      leads_cut = leads_cut_next events c.args.most c.args.fabric.now c.loop.fabric c.sweep.new.fabric c.loop.counter c.in_ok-moved.moved c.loop-test.true c.if-not-moved.false c.loop.invariant.leads_cut c.in_ok-moved.ensures.made;
      asleep = c.sweep.ensures.asleep;
    }
