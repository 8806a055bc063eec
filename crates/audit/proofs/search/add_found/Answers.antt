use Rattle.audit.proofs.search.add_found.Goals as goal

pub returns : goal.returns
returns c = record { found = c.in_ok-found.found; is = c.in_ok-found.ensures; all = c.in_ok-add_some.ensures }
