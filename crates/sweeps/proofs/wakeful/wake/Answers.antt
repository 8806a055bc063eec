use Rattle.std.proofs.Common.{true}
use Rattle.sweeps.specs.Asleep.{Nowhere}
use Rattle.sweeps.proofs.Flags.{woken_start, woken_whole}
use Rattle.sweeps.proofs.wakeful.wake.Goals as goal

pub loop-place-init : goal.loop-place-init
loop-place-init c = woken_start Nowhere true c.args.flags.now.items

pub returns : goal.returns
returns c = woken_whole Nowhere c.args.places.now c.loop-place.place-index c.args.flags.now.items c.loop-place.flags.items c.loop-place-test.false c.loop-place.invariant
