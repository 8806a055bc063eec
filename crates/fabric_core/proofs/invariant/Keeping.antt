-- Every event keeps what a fabric keeps.
use Rattle.std.proofs.Common.{◌≡◌, Some}
use Rattle.link.specs.Channels.{deliver, send, update_fc}
use Rattle.fabric_core.specs.declared.event.Event.{Event}
use Rattle.fabric_core.specs.declared.event.Event.TheVariants.{Arrive, Credit, Enter, Mmio, Pass, Root, Send, Submit, Take, Tick}
use Rattle.fabric_core.specs.Events.{effect}
use Rattle.fabric_core.specs.Invariant.{IsConsistent}
use Rattle.fabric_core.specs.World.{World}
use Rattle.fabric_core.proofs.invariant.Beginning.{kept_access, kept_submit, kept_tick}
use Rattle.fabric_core.proofs.invariant.Concluding.{kept_arrive, kept_at_host}
use Rattle.fabric_core.proofs.invariant.Moving.{kept_enter, kept_step, receive_moves, send_moves, update_fc_moves}
use Rattle.fabric_core.proofs.invariant.Passing.{kept_pass}

pub kept_after : (w w' : World) (event : Event) → IsConsistent w → effect w event ≡ Some w' → IsConsistent w'
kept_after w w' (Submit function bytes) kept is = kept_submit w w' function bytes kept is
kept_after w w' (Tick function) kept is = kept_tick w w' function kept is
kept_after w w' (Mmio domain access) kept is = kept_access w w' domain access kept is
kept_after w w' (Enter origin class) kept is = kept_enter w w' origin class kept is
kept_after w w' (Pass port class) kept is = kept_pass w w' port class kept is
kept_after w w' (Send direction class) kept is = kept_step w w' direction (send class) kept (send_moves class) is
kept_after w w' (Take direction) kept is = kept_step w w' direction deliver kept receive_moves is
kept_after w w' (Credit direction) kept is = kept_step w w' direction update_fc kept update_fc_moves is
kept_after w w' (Root class) kept is = kept_at_host w w' class kept is
kept_after w w' (Arrive function class) kept is = kept_arrive w w' function class kept is
