-- What no turn of a worker changes.
use Rattle.thread_rings.specs.Wired.{Tags, tags_of}
use Rattle.thread_staff.specs.Kept.{PostKept, post_kept}
use Rattle.thread_staff.specs.Watched.{MonitorKept, watch_kept}
use Rattle.port_threads.specs.declared.monitor_worker.Monitor.{Monitor}
use Rattle.port_threads.specs.declared.worker.Worker.{Worker}

-- which worker it is, what for, and at which seat, and the ends of rings that it has
pub record Kept : Type 0 where
  pub post : PostKept
  pub links : Tags
  pub credits : Tags
  pub pairs : Tags

abbrev pub kept_of : Worker → Kept
kept_of w = record { post = post_kept w.post; links = tags_of w.links; credits = tags_of w.credits; pairs = tags_of w.pairs }

abbrev pub monitor_kept : Monitor → MonitorKept
monitor_kept m = watch_kept m.watch
