-- What no turn of a worker changes.
use Rattle.std.specs.Prelude.{ℕ, List, Option, Some, None}
use Rattle.bridge.specs.Bridges.{Routes}
use Rattle.thread_crew.specs.declared.worker_id.WorkerId.{WorkerId}
use Rattle.monitor.specs.Reporting.{QueueSeat}
use Rattle.port.specs.Configs.{Config}
use Rattle.thread_workers.specs.HostWorks.{HostKept}
use Rattle.thread_staff.specs.declared.job.Job.{Job}
use Rattle.thread_staff.specs.declared.job.Job.TheVariants.{Port, Function, Host}
use Rattle.thread_staff.specs.declared.post.Post.{Post}

-- what one works for: a port, among these switches; a function, of a domain if it has one, among these switches and over the
-- locks of these numbers; or the host
pub data Duty : Type 0 where
  OfPort : Config → Routes → Duty
  OfFunction : ℕ → Option ℕ → Routes → List ℕ → Duty
  OfHost : HostKept → Duty

abbrev pub duty_of : Job → Duty
duty_of (Port work) = OfPort work.kept.config work.kept.routes
duty_of (Function work) = OfFunction work.kept.function (Some work.kept.domain) work.kept.routes work.kept.locks
duty_of (Host work) = OfHost work.kept

-- a port has a seat in the queue of violations, and others have none
abbrev pub seat_in : Job → Option QueueSeat
seat_in (Port work) = Some work.kept.seat
seat_in (Function work) = None
seat_in (Host work) = None

pub record Role : Type 0 where
  pub id : WorkerId
  pub duty : Duty

pub record PostKept : Type 0 where
  pub role : Role
  pub seat : Option QueueSeat

abbrev pub post_kept : Post → PostKept
post_kept post = record { role = record { id = post.id; duty = duty_of post.job }; seat = seat_in post.job }

abbrev pub role_of : PostKept → Role
role_of post = post.role
