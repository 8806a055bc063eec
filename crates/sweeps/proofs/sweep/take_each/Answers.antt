use Rattle.fab_types.specs.declared.class.Class.TheVariants.{Posted, NonPosted, Completion}
use Rattle.fabric_core.specs.Stations.{taking}
use Rattle.sweeps.proofs.Cutting.{cut_first, cut_second, cut_third, told}
use Rattle.sweeps.proofs.Running.{three}
use Rattle.sweeps.proofs.sweep.take_each.Goals as goal

pub returns-in_err-posted-clause-cut_short : goal.returns-in_err-posted-clause-cut_short
returns-in_err-posted-clause-cut_short c =
    let s = c.args.station.now in
    told _ (cut_first c.args.fabric.now c.take_eligible.new.fabric (taking s Posted) (taking s NonPosted) (taking s Completion) c.in_err-posted.ensures.cut_short)

pub returns-in_err-non_posted-clause-cut_short : goal.returns-in_err-non_posted-clause-cut_short
returns-in_err-non_posted-clause-cut_short c =
    let s = c.args.station.now in
    told _ (cut_second c.args.fabric.now c.take_eligible.new.fabric c.take_eligible-2.new.fabric (taking s Posted) (taking s NonPosted) (taking s Completion) c.in_ok-posted.posted
    c.in_ok-posted.ensures.made c.in_err-non_posted.ensures.cut_short)

pub returns-in_err-completion-clause-cut_short : goal.returns-in_err-completion-clause-cut_short
returns-in_err-completion-clause-cut_short c =
    let s = c.args.station.now in
    told _ (cut_third c.args.fabric.now c.take_eligible.new.fabric c.take_eligible-2.new.fabric c.take_eligible-3.new.fabric (taking s Posted) (taking s NonPosted) (taking s Completion)
    c.in_ok-posted.posted c.in_ok-non_posted.non_posted c.in_ok-posted.ensures.made c.in_ok-non_posted.ensures.made c.in_err-completion.ensures.cut_short)

pub returns-clause-made : goal.returns-clause-made
returns-clause-made c =
    let s = c.args.station.now in
    three c.args.fabric.now c.take_eligible.new.fabric c.take_eligible-2.new.fabric c.take_eligible-3.new.fabric (taking s Posted) (taking s NonPosted) (taking s Completion)
    c.in_ok-posted.posted c.in_ok-non_posted.non_posted c.in_ok-completion.completion
    c.in_ok-posted.ensures.made c.in_ok-non_posted.ensures.made c.in_ok-completion.ensures.made
