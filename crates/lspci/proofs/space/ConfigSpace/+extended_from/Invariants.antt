use Rattle.lspci.proofs.space.ConfigSpace.+extended_from.Given as goal

abbrev pub decreases-extended_from : goal.decreases-extended_from
decreases-extended_from l = l.left
