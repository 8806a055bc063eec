use Rattle.std.proofs.Common.{true}
use Rattle.sweeps.specs.Asleep.{IsUnblocked}
use Rattle.sweeps.proofs.Flags.{woken_start, woken_whole}
use Rattle.sweeps.proofs.wakeful.wake_blocked.Goals as goal

pub loop-place-init : goal.loop-place-init
loop-place-init c = woken_start (IsUnblocked c.args.blocked.now) true c.args.flags.now.items

pub returns : goal.returns
returns c = woken_whole (IsUnblocked c.args.blocked.now) c.args.places.now c.loop-place.place-index c.args.flags.now.items c.loop-place.flags.items c.loop-place-test.false c.loop-place.invariant
