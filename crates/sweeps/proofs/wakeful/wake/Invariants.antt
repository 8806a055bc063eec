use Rattle.std.proofs.Common.{true, take}
use Rattle.sweeps.specs.Asleep.{AreWoken, Nowhere}
use Rattle.sweeps.proofs.wakeful.wake.Given as goal

-- the places so far were woken
abbrev pub invariant-loop-place : goal.invariant-loop-place
invariant-loop-place l = AreWoken Nowhere true (take l.place-index l.places) l.initial.flags.items l.flags.items
