use Rattle.std.proofs.Common.{◌≡◌, ◌++◌, map, take}
use Rattle.thread_staff.specs.Kept.{role_of}
use Rattle.thread_staff.specs.Roles.{downstream_role}
use Rattle.thread_staff.proofs.staffing.add_downstream.Given as goal

abbrev pub invariant-loop-line : goal.invariant-loop-line
invariant-loop-line l = map role_of l.staff ≡ map role_of l.initial.staff ++ map (downstream_role l.layout) (take l.line-index l.line-items)
