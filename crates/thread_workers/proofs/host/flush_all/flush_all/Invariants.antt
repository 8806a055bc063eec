use Rattle.std.proofs.Common.{◌≡◌, map}
use Rattle.thread_workers.specs.Hosts.{flushed}
use Rattle.thread_workers.proofs.host.flush_all.flush_all.Given as goal

abbrev pub invariant-loop-place : goal.invariant-loop-place
invariant-loop-place l = map flushed l.hosts ≡ map flushed l.fn.hosts
