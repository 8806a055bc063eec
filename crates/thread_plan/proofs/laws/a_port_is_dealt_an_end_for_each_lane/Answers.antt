use Rattle.thread_plan.proofs.Dealing.{lanes_in, lanes_out}
use Rattle.thread_plan.proofs.laws.a_port_is_dealt_an_end_for_each_lane.Goals as goal

pub returns : goal.returns
returns c = record { outs = lanes_out; ins = lanes_in }
