use Rattle.std.proofs.Common.{◌≡◌, drop}
use Rattle.std.specs.List.{flat_map}
use Rattle.threads_command.specs.Refusals.{all_added, refused_by}
use Rattle.threads_command.proofs.refusals.Refusals.add_all.Given as goal

-- those of the workers so far are added, and the others' are left
abbrev pub invariant-loop-worker : goal.invariant-loop-worker
invariant-loop-worker l = all_added l.self (flat_map refused_by (drop l.worker-index l.remains)) ≡ all_added l.initial.self (flat_map refused_by l.remains)
