use Rattle.std.proofs.Common.{Bool, subst, sym}
use Rattle.fabric_core.specs.Stations.{events_at}
use Rattle.sweeps.specs.Sweeps.{Sweeps}
use Rattle.sweeps.proofs.Sleeping.{asleep_after, kept_awake, listed_within, visited}
use Rattle.sweeps.proofs.visit.visit.Goals as goal

pub settle-requires-clause-within : goal.settle-requires-clause-within
settle-requires-clause-within c = listed_within c.args.watchpoints.now c.args.fabric.now c.args.awake.now c.args.place c.args.watchpoint.now c.requires.watchpoint c.requires.within c.requires.asleep

pub returns-in-Ok-clause-made : goal.returns-in-Ok-clause-made
returns-in-Ok-clause-made c =
    subst (λ (b : Bool). Sweeps (events_at c.args.watchpoint.now.station) c.args.fabric.now b c.make_all.new.fabric) (sym c.any.ensures) (visited c.args.watchpoint.now.station c.args.fabric.now c.make_all.new.fabric c.in-Ok.moves c.in-Ok.ensures.made)

pub returns-in-Ok-clause-asleep : goal.returns-in-Ok-clause-asleep
returns-in-Ok-clause-asleep c =
    asleep_after c.args.watchpoints.now c.args.fabric.now c.make_all.new.fabric c.args.place c.args.watchpoint.now c.in-Ok.moves c.args.awake.now c.settle.new.self c.requires.watchpoint c.requires.asleep c.in-Ok.ensures.made c.in-Ok.ensures.quiet c.settle.ensures.may c.settle.ensures.blocked c.settle.ensures.settled

pub returns-in-Err-clause-asleep : goal.returns-in-Err-clause-asleep
returns-in-Err-clause-asleep c =
    kept_awake c.args.watchpoints.now c.args.fabric.now c.make_all.new.fabric c.args.awake.now c.keep_awake.new.self c.requires.asleep c.keep_awake.ensures.may c.keep_awake.ensures.blocked c.keep_awake.ensures.flags
