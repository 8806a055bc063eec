use denote.Param.Send.{arg_send, param_send}
use Rattle.port_threads.proofs.WorkerSent.{worker_send}
use Rattle.port_threads.proofs.starting.run.Goals as goal

pub start-requires-send-W : goal.start-requires-send-W
start-requires-send-W g c κs within = search (param_send, arg_send, worker_send)

pub end_all-requires-send-W : goal.end_all-requires-send-W
end_all-requires-send-W g c κs within = search (param_send, arg_send, worker_send)
