use denote.Param.Send.{arg_send, param_send}
use Rattle.port_threads.proofs.WorkerSent.{worker_send}
use Rattle.port_threads.proofs.stopping.join.Goals as goal

pub join_all-workers-requires-send-W : goal.join_all-workers-requires-send-W
join_all-workers-requires-send-W g c κs within = search (param_send, arg_send, worker_send)
