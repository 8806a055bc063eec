use Rattle.std.proofs.Common.{◌≡◌, ◌++◌, map, take}
use Rattle.thread_staff.specs.Kept.{role_of}
use Rattle.thread_staff.specs.Roles.{upstream_role}
use Rattle.thread_staff.proofs.staffing.add_upstream.Given as goal

abbrev pub invariant-loop-switch : goal.invariant-loop-switch
invariant-loop-switch l = map role_of l.staff ≡ map role_of l.initial.staff ++ map (upstream_role l.layout) (take l.switch-index l.switch-items)
