use Rattle.import.proofs.pages.+page_from.Given as goal

abbrev pub decreases-page_from : goal.decreases-page_from
decreases-page_from l = l.left
