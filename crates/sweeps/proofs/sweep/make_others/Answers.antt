use Rattle.std.proofs.Common.{◌∷◌, []}
use Rattle.fabric_core.specs.declared.event.Event.TheVariants.{Take, Credit}
use Rattle.sweeps.proofs.Cutting.{cut_before, cut_behind, told}
use Rattle.sweeps.proofs.Running.{sweep_then}
use Rattle.sweeps.proofs.sweep.make_others.Goals as goal

pub returns-in_err-received-in-Link-clause-cut_short : goal.returns-in_err-received-in-Link-clause-cut_short
returns-in_err-received-in-Link-clause-cut_short c =
    let d = c.in-Link.direction in
    rw c.in-Link.is (told _ (cut_before c.args.fabric.now c.make_taking.new.fabric (Take d ∷ []) (Credit d ∷ []) c.in_err-received-in-Link.ensures.cut_short))

pub returns-in_err-updated-in-Link-clause-cut_short : goal.returns-in_err-updated-in-Link-clause-cut_short
returns-in_err-updated-in-Link-clause-cut_short c =
    let d = c.in-Link.direction in
    rw c.in-Link.is (told _ (cut_behind c.args.fabric.now c.make_taking.new.fabric c.make.new.fabric (Take d ∷ []) (Credit d ∷ []) c.in_ok-received-in-Link.received
    c.in_ok-received-in-Link.ensures.made c.in_err-updated-in-Link.ensures.cut_short))

pub returns-in_ok-updated-in-Link-clause-made : goal.returns-in_ok-updated-in-Link-clause-made
returns-in_ok-updated-in-Link-clause-made c =
    let d = c.in-Link.direction in
    rw c.in-Link.is (sweep_then c.args.fabric.now c.make_taking.new.fabric c.make.new.fabric (Take d ∷ []) (Credit d ∷ []) c.in_ok-received-in-Link.received c.in_ok-updated-in-Link.updated
    c.in_ok-received-in-Link.ensures.made c.in_ok-updated-in-Link.ensures.made)
