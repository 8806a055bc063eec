use Rattle.std.proofs.Common.{◌≡◌, ◌++◌, map, take, drop}
use Rattle.std.specs.Vec.Iter.{into_iter_items}
use Rattle.outboxes.specs.Outboxes.{function_box}
use Rattle.thread_staff.specs.Origins.{function_origin, origins_in}
use Rattle.thread_staff.specs.Kept.{role_of}
use Rattle.thread_staff.specs.Roles.{function_role}
use Rattle.thread_staff.proofs.staffing.add_functions.Given as goal

abbrev pub invariant-loop-line : goal.invariant-loop-line
invariant-loop-line l =
    (map role_of l.staff ≡ map role_of l.initial.staff ++ map (function_role l.layout) (take l.line-index l.line-items))
    × (into_iter_items l.rest ≡ map (function_box l.layout) (drop l.line-index l.line-items))
    × (origins_in l.injectors.items ≡ origins_in l.initial.injectors.items ++ map function_origin (take l.line-index l.line-items))
