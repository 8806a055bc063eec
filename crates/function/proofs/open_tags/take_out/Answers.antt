use Rattle.std.proofs.Common.{rules}
use Rattle.std.proofs.lemmas.Fn.{filter_same}
use Rattle.function.proofs.open_tags.take_out.Goals as goal

pub returns-clause-tags : goal.returns-clause-tags
returns-clause-tags c = filter_same _ _ _ (λ x b f' k. search rules) _ _ c.retain.ensures.filtered
