use Rattle.std.proofs.Common.{sym, ◌∙◌}
use Rattle.fab_types.specs.declared.origin.Origin.TheVariants.{Host}
use Rattle.domains.proofs.Indexed.{found_home, place_within}
use Rattle.domains.proofs.indexing.indexed_place.Goals as goal

pub returns-in-Some-clause-within : goal.returns-in-Some-clause-within
returns-in-Some-clause-within c = place_within c.args.domains.now c.args.number c.in-Some.place (c.requires (Host c.args.number) c.in-Some.place (sym c.place.ensures ∙ c.in-Some.is))

pub returns-in-Some-clause-home : goal.returns-in-Some-clause-home
returns-in-Some-clause-home c = found_home c.args.domains.now c.args.number c.in-Some.place (c.requires (Host c.args.number) c.in-Some.place (sym c.place.ensures ∙ c.in-Some.is))
