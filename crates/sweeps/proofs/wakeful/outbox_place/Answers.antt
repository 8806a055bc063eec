use Rattle.sweeps.proofs.Listing.{outbox_found}
use Rattle.sweeps.proofs.wakeful.outbox_place.Goals as goal

pub returns : goal.returns
returns c = outbox_found c.args.watchpoints.now c.args.outbox.now c.changed_by.result c.changed_by.ensures
