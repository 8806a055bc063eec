-- Who a worker was, and what it had, before it was taken apart and after.
use Rattle.std.specs.Prelude.{Option, Some, None}
use Rattle.thread_crew.specs.declared.worker_id.WorkerId.{WorkerId}
use Rattle.port.specs.Configs.{Config}
use Rattle.thread_staff.specs.Kept.{Duty, OfFunction, OfPort, OfHost, PostKept, duty_of}
use Rattle.thread_staff.specs.declared.job.Job.{Job}
use Rattle.thread_staff.specs.declared.job.Job.TheVariants as job
use Rattle.thread_staff.specs.declared.remains.Parts.{Parts}
use Rattle.thread_staff.specs.declared.remains.Parts.TheVariants as parts
use Rattle.thread_staff.specs.declared.remains.Remains.{Remains}

-- who it was, and of a port, which
pub record Mark : Type 0 where
  pub id : WorkerId
  pub config : Option Config

abbrev pub config_of : Duty → Option Config
config_of (OfPort config routes) = Some config
config_of (OfFunction function domain routes locks) = None
config_of (OfHost kept) = None

abbrev pub config_in : Job → Option Config
config_in j = config_of (duty_of j)

abbrev pub mark_of : PostKept → Mark
mark_of post = record { id = post.role.id; config = config_of post.role.duty }

-- what is its own: of a port, but for its end of the queue of violations
abbrev pub parts_in : Job → Parts
parts_in (job.Port work) = parts.Port (record { port = work.parts.port; side = work.parts.side })
parts_in (job.Function work) = parts.Function work.parts
parts_in (job.Host work) = parts.Host work.parts

abbrev pub config_left : Parts → Option Config
config_left (parts.Port left) = Some left.port.config
config_left (parts.Function left) = None
config_left (parts.Host left) = None

abbrev pub mark_left : Remains → Mark
mark_left remains = record { id = remains.id; config = config_left remains.parts }
