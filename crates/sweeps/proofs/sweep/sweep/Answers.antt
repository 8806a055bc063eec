use Rattle.std.proofs.Common.{rules}
use Rattle.sweeps.proofs.Cutting.{stations_cut, told}
use Rattle.sweeps.proofs.Running.{stations_next, stations_start, stations_whole}
use Rattle.sweeps.proofs.sweep.sweep.Goals as goal

pub loop-station-init : goal.loop-station-init
loop-station-init c = stations_start c.args.fabric.now c.args.stations.now

pub returns-in_err-moves-clause-cut_short : goal.returns-in_err-moves-clause-cut_short
returns-in_err-moves-clause-cut_short c =
    told _ (stations_cut c.args.fabric.now c.loop-station.fabric c.visit.new.fabric c.args.stations.now c.loop-station.station-index c.station-item.result c.loop-station.moved
    c.loop-station-test.true c.station-item.is c.loop-station.invariant c.in_err-moves.ensures.cut_short)

pub loop-station-preserved : goal.loop-station-preserved
loop-station-preserved c =
    stations_next c.args.fabric.now c.loop-station.fabric c.visit.new.fabric c.args.stations.now c.loop-station.station-index c.station-item.result c.loop-station.moved c.in_ok-moves.moves _
    c.loop-station-test.true c.station-item.is (search rules) c.loop-station.invariant c.in_ok-moves.ensures.made

pub returns-clause-made : goal.returns-clause-made
returns-clause-made c = stations_whole c.args.fabric.now c.loop-station.fabric c.args.stations.now c.loop-station.moved c.loop-station.station-index c.loop-station-test.false c.loop-station.invariant
