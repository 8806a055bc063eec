use Rattle.std.proofs.Common.{sym, ◌∙◌}
use Rattle.outboxes.proofs.Indexed.{place_within}
use Rattle.outboxes.proofs.indexing.indexed_place.Goals as goal

pub returns-in-Some-clause-within : goal.returns-in-Some-clause-within
returns-in-Some-clause-within c = place_within c.args.boxes.now c.args.origin c.in-Some.place (c.requires c.args.origin c.in-Some.place (sym c.place.ensures ∙ c.in-Some.is))
