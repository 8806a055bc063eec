-- Every event keeps a guarded fabric.
use Rattle.std.proofs.Common.{◌≡◌, Some}
use Rattle.link.specs.Channels.{deliver, send, update_fc}
use Rattle.fabric_core.specs.declared.event.Event.{Event}
use Rattle.fabric_core.specs.declared.event.Event.TheVariants.{Arrive, Credit, Enter, Mmio, Pass, Root, Send, Submit, Take, Tick}
use Rattle.fabric_core.specs.Events.{effect}
use Rattle.fabric_core.specs.Invariant.{IsConsistent}
use Rattle.fabric_core.specs.Soundness.{IsGuardedFabric}
use Rattle.fabric_core.specs.World.{World}
use Rattle.fabric_core.proofs.soundness.GuardedArrival.{guarded_arrive}
use Rattle.fabric_core.proofs.soundness.GuardedBegins.{guarded_access, guarded_submit, guarded_tick}
use Rattle.fabric_core.proofs.soundness.GuardedHost.{guarded_at_host}
use Rattle.fabric_core.proofs.soundness.GuardedTurns.{guarded_pass}
use Rattle.fabric_core.proofs.soundness.Guarding.{guarded_enter, guarded_step}
use Rattle.fabric_core.proofs.invariant.Moving.{receive_moves, send_moves, update_fc_moves}

pub guarded_after : (w w' : World) (event : Event) → IsConsistent w → IsGuardedFabric w → effect w event ≡ Some w' → IsGuardedFabric w'
guarded_after w w' (Submit function bytes) kept g is = guarded_submit w w' function bytes g is
guarded_after w w' (Tick function) kept g is = guarded_tick w w' function g is
guarded_after w w' (Mmio domain access) kept g is = guarded_access w w' domain access g is
guarded_after w w' (Enter origin class) kept g is = guarded_enter w w' origin class g is
guarded_after w w' (Pass port class) kept g is = guarded_pass w w' port class kept g is
guarded_after w w' (Send direction class) kept g is = guarded_step w w' direction (send class) g (send_moves class) is
guarded_after w w' (Take direction) kept g is = guarded_step w w' direction deliver g receive_moves is
guarded_after w w' (Credit direction) kept g is = guarded_step w w' direction update_fc g update_fc_moves is
guarded_after w w' (Root class) kept g is = guarded_at_host w w' class kept g is
guarded_after w w' (Arrive function class) kept g is = guarded_arrive w w' function class kept g is
