use Rattle.std.proofs.Common.{sym, ◌∙◌}
use Rattle.fab_types.specs.declared.origin.Origin.TheVariants.{Function}
use Rattle.domains.proofs.Indexed.{function_within}
use Rattle.domains.proofs.indexing.indexed_home.Goals as goal

pub returns-in-Some-clause-within : goal.returns-in-Some-clause-within
returns-in-Some-clause-within c = function_within c.args.domains.now c.args.function c.in-Some.place (c.requires (Function c.args.function) c.in-Some.place (sym c.place.ensures ∙ c.in-Some.is))
