use Rattle.thread_plan.proofs.Numbered.{many_from, many_into, named_from, named_into}
use Rattle.thread_plan.proofs.laws.a_port_has_rings_for_its_lanes.Goals as goal

pub returns : goal.returns
returns c = record {
  from = λ platform switch worker n laws placed is. named_from platform switch worker n laws placed is.listed is.lane is.numbered;
  into = λ platform switch worker n laws placed is. named_into platform switch worker n laws placed is.listed is.lane is.numbered;
  many_from = λ platform switch worker n laws placed is. many_from platform switch worker n laws placed is.listed is.lane is.numbered;
  many_into = λ platform switch worker n laws placed is. many_into platform switch worker n laws placed is.listed is.lane is.numbered;
}
