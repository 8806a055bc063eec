use Rattle.sweeps.proofs.Cutting.{told}
use Rattle.sweeps.proofs.CutVisits.{cut_receiving, cut_taking, cut_updating}
use Rattle.sweeps.proofs.Sleeping.{quiet_visit}
use Rattle.sweeps.proofs.visit.make_all.Goals as goal

pub returns-then-is_quiet-clause-made : goal.returns-then-is_quiet-clause-made
returns-then-is_quiet-clause-made c = quiet_visit c.args.station.now c.args.fabric.now (c.is_quiet.ensures.idle c.if-is_quiet.true)

pub returns-in_err-taken-clause-cut_short : goal.returns-in_err-taken-clause-cut_short
returns-in_err-taken-clause-cut_short c = told _ (cut_taking c.args.station.now c.args.fabric.now c.take_each.new.fabric c.in_err-taken.ensures.cut_short)

pub returns-in_err-received-clause-cut_short : goal.returns-in_err-received-clause-cut_short
returns-in_err-received-clause-cut_short c =
    told _ (cut_receiving c.args.station.now c.args.fabric.now c.take_each.new.fabric c.in_ok-taken.taken c.in_ok-taken.ensures.made c.receive.new.fabric c.in_err-received.ensures.cut_short)

pub returns-in_err-updated-clause-cut_short : goal.returns-in_err-updated-clause-cut_short
returns-in_err-updated-clause-cut_short c =
    told _ (cut_updating c.args.station.now c.args.fabric.now c.take_each.new.fabric c.in_ok-taken.taken c.in_ok-taken.ensures.made c.receive.new.fabric c.send_update_fc.new.fabric c.in_ok-received.received
    c.in_ok-received.ensures.made c.in_err-updated.ensures.cut_short)

pub returns-clause-made : goal.returns-clause-made
returns-clause-made c = record { after_taking = c.take_each.new.fabric; after_receiving = c.receive.new.fabric; taken = c.in_ok-taken.ensures.made; received = c.in_ok-received.ensures.made; updated = c.in_ok-updated.ensures.made }
