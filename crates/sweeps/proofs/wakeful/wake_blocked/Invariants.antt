use Rattle.std.proofs.Common.{true, take}
use Rattle.sweeps.specs.Asleep.{AreWoken, IsUnblocked}
use Rattle.sweeps.proofs.wakeful.wake_blocked.Given as goal

-- of the places so far those that are blocked were woken
abbrev pub invariant-loop-place : goal.invariant-loop-place
invariant-loop-place l = AreWoken (IsUnblocked l.blocked) true (take l.place-index l.places) l.initial.flags.items l.flags.items
