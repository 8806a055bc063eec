use Rattle.std.proofs.Common.{add-one}
use Rattle.std.proofs.KnownBytes.{Appends-nil, Appends-trans}
use Rattle.drawing.specs.Legend.{domain_shapes}
use Rattle.drawing.proofs.legend.write_domains.Goals as goal

pub loop-number-init : goal.loop-number-init
unfolding domain_shapes
loop-number-init g c = Appends-nil _

pub loop-number-preserved : goal.loop-number-preserved
unfolding domain_shapes
loop-number-preserved g c = rw add-one (Appends-trans _ _ _ _ _ c.loop-number.invariant c.in_ok-write_owner.ensures)
