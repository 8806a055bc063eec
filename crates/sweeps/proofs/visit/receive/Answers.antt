use Rattle.sweeps.proofs.visit.receive.Goals as goal

pub returns-in-Link-clause-made : goal.returns-in-Link-clause-made
returns-in-Link-clause-made c = rw c.in-Link.is c.make_taking.ensures.made

pub returns-in-Link-clause-cut_short : goal.returns-in-Link-clause-cut_short
returns-in-Link-clause-cut_short c = rw c.in-Link.is c.make_taking.ensures.cut_short
