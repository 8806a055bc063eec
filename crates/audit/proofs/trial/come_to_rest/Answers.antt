use Rattle.audit.proofs.trial.come_to_rest.Goals as goal

pub returns : goal.returns
returns c = record { most = c.args.most; most_is = c.requires; swept = c.in_ok-sweeps.ensures.made }
