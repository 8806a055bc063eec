-- An outbox that has no place for a packet of some class.
use Rattle.std.proofs.Common.{◌≡◌, true, false, sym, ◌∙◌}
use Rattle.fab_types.specs.declared.class.Class.{Class}
use Rattle.outboxes.specs.Outboxes.{BoxView, takes}
use Rattle.thread_workers.specs.Boxes.{HasRoom, IsCramped}

pub cramped_by : (box : BoxView) (class : Class) → takes box class ≡ false → IsCramped box
cramped_by box class e = λ (room : HasRoom box). let both : true ≡ false = sym (room class) ∙ e in cc
