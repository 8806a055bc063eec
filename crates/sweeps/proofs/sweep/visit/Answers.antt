use Rattle.std.proofs.Common.{map}
use Rattle.fabric_core.specs.Stations.{classes, events_at, others_at, taking}
use Rattle.sweeps.proofs.Cutting.{cut_before, cut_behind, told}
use Rattle.sweeps.proofs.Running.{quiet_sweep, sweep_then}
use Rattle.sweeps.proofs.sweep.visit.Goals as goal

pub returns-then-is_quiet-clause-made : goal.returns-then-is_quiet-clause-made
returns-then-is_quiet-clause-made c = quiet_sweep c.args.fabric.now (events_at c.args.station.now) (c.is_quiet.ensures.idle c.if-is_quiet.true)

pub returns-in_err-taken-clause-cut_short : goal.returns-in_err-taken-clause-cut_short
returns-in_err-taken-clause-cut_short c =
    let s = c.args.station.now in
    told _ (cut_before c.args.fabric.now c.take_each.new.fabric (map (taking s) classes) (others_at s) c.in_err-taken.ensures.cut_short)

pub returns-in_err-others-clause-cut_short : goal.returns-in_err-others-clause-cut_short
returns-in_err-others-clause-cut_short c =
    let s = c.args.station.now in
    told _ (cut_behind c.args.fabric.now c.take_each.new.fabric c.make_others.new.fabric (map (taking s) classes) (others_at s) c.in_ok-taken.taken c.in_ok-taken.ensures.made c.in_err-others.ensures.cut_short)

pub returns-clause-made : goal.returns-clause-made
returns-clause-made c =
    let s = c.args.station.now in
    sweep_then c.args.fabric.now c.take_each.new.fabric c.make_others.new.fabric (map (taking s) classes) (others_at s) c.in_ok-taken.taken c.in_ok-others.others c.in_ok-taken.ensures.made c.in_ok-others.ensures.made
