-- A worker may go to its thread.
use denote.Param.Send.{IsSend, sendable}
use Rattle.thread_crew.proofs.worker_id.WorkerId.TheSendSync as worker_id
use Rattle.credit.proofs.counters.Counters.TheSendSync as counters
use Rattle.frame_log.proofs.frame.Frame.TheSendSync as frame
use Rattle.thread_workers.proofs.functions.function_work.FunctionWork.TheSendSync as function
use Rattle.thread_workers.proofs.host.host_work.HostWork.TheSendSync as host
use Rattle.thread_rings.proofs.ends.Ends.TheSendSync as ends
use Rattle.port_threads.proofs.Sent.{port_work_send, vetted_send}
use Rattle.thread_staff.specs.contracts.job.Job as Job
use Rattle.thread_staff.specs.contracts.post.Post as Post
use Rattle.port_threads.specs.contracts.worker.Worker as Worker

job_field_send : IsSend (Job.the_field).row
job_field_send = search (sendable, port_work_send, function.the_send, host.the_send) depth 20

post_field_send : IsSend (Post.the_field).row
post_field_send = search (sendable, worker_id.the_field_send, job_field_send) depth 20

pub worker_send : IsSend Worker.the_row
worker_send = search (sendable, post_field_send, ends.the_field_send, frame.the_send, counters.the_send, vetted_send) depth 20
