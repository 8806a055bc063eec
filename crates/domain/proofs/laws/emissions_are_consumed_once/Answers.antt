use Rattle.domain.proofs.Consuming.{consumed_once}
use Rattle.domain.proofs.laws.emissions_are_consumed_once.Goals as goal

pub returns : goal.returns
returns c share journal state is n = consumed_once share journal state is n
