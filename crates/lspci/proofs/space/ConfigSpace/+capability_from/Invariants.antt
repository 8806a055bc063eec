use Rattle.lspci.proofs.space.ConfigSpace.+capability_from.Given as goal

abbrev pub decreases-capability_from : goal.decreases-capability_from
decreases-capability_from l = l.left
