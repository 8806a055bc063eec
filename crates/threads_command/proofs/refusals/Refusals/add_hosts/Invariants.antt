use Rattle.std.proofs.Common.{◌≡◌, drop}
use Rattle.threads_command.specs.Refusals.{all_added, host_refusals}
use Rattle.threads_command.proofs.refusals.Refusals.add_hosts.Given as goal

-- those of the hosts so far are added, and the others' are left
abbrev pub invariant-loop-host : goal.invariant-loop-host
invariant-loop-host l = all_added l.self (host_refusals (drop l.host-index l.hosts)) ≡ all_added l.initial.self (host_refusals l.hosts)
