use Rattle.sweeps.proofs.visit.send_update_fc.Goals as goal

pub returns-in-Link-clause-made : goal.returns-in-Link-clause-made
returns-in-Link-clause-made c = rw c.in-Link.is c.make.ensures.made

pub returns-in-Link-clause-cut_short : goal.returns-in-Link-clause-cut_short
returns-in-Link-clause-cut_short c = rw c.in-Link.is c.make.ensures.cut_short
