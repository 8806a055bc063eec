-- Every event of a guarded fabric is a motion.
use Rattle.std.proofs.Common.{◌≡◌, Some}
use Rattle.fabric_core.specs.declared.event.Event.{Event}
use Rattle.fabric_core.specs.declared.event.Event.TheVariants.{Arrive, Credit, Enter, Mmio, Pass, Root, Send, Submit, Take, Tick}
use Rattle.fabric_core.specs.Events.{effect}
use Rattle.fabric_core.specs.Invariant.{IsConsistent}
use Rattle.fabric_core.specs.Soundness.{IsGuardedFabric}
use Rattle.fabric_core.specs.World.{World}
use Rattle.fabric_core.proofs.order.MotionEnds.{motion_arrive, motion_at_host}
use Rattle.fabric_core.proofs.order.MotionMoves.{motion_access, motion_enter, motion_receive, motion_send, motion_submit, motion_update_fc, motion_tick}
use Rattle.fabric_core.proofs.order.MotionsOfTurns.{motion_pass}
use Rattle.fabric_core.proofs.order.Motions.{Motion}

pub motion_of : (w w' : World) (event : Event) → IsConsistent w → (g : IsGuardedFabric w) → effect w event ≡ Some w' → Motion g.platform w w'
motion_of w w' (Submit function bytes) kept g is = motion_submit w w' kept g function bytes is
motion_of w w' (Tick function) kept g is = motion_tick w w' kept g function is
motion_of w w' (Mmio domain access) kept g is = motion_access w w' kept g domain access is
motion_of w w' (Enter origin class) kept g is = motion_enter w w' kept g origin class is
motion_of w w' (Pass port class) kept g is = motion_pass w w' port class kept g is
motion_of w w' (Send direction class) kept g is = motion_send w w' kept g direction class is
motion_of w w' (Take direction) kept g is = motion_receive w w' kept g direction is
motion_of w w' (Credit direction) kept g is = motion_update_fc w w' kept g direction is
motion_of w w' (Root class) kept g is = motion_at_host w w' class kept g is
motion_of w w' (Arrive function class) kept g is = motion_arrive w w' function class kept g is
