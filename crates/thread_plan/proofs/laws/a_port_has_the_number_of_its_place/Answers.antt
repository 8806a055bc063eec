use Rattle.thread_plan.proofs.Ported.{port_number}
use Rattle.thread_plan.proofs.laws.a_port_has_the_number_of_its_place.Goals as goal

pub returns : goal.returns
returns c = λ platform k d laws placed less. port_number platform laws placed k d less
