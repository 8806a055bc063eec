use Rattle.guarded_routes.proofs.Alike.{same_source, same_translation}
use Rattle.guarded_routes.proofs.laws.ports_and_machines_test_alike.Goals as goal

pub returns-clause-source : goal.returns-clause-source
returns-clause-source c = λ port parties t request. same_source port parties t request

pub returns-clause-translation : goal.returns-clause-translation
returns-clause-translation c = λ port parties t request. same_translation port parties t request
