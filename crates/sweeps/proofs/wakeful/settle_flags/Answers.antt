use Rattle.std.proofs.Common.{ℕ, List, refl, subst}
use Rattle.sweeps.specs.Asleep.{AreWoken, IsUnblocked, Nowhere}
use Rattle.sweeps.proofs.Flags.{settled_by}
use Rattle.sweeps.proofs.wakeful.settle_flags.Goals as goal

pub returns : goal.returns
returns c =
    settled_by c.args.watchpoint.now c.args.place c.args.moves c.args.may_sleep c.args.blocked.now c.args.flags.now.items c.wake_if.new.flags.items c.wake_blocked_if.new.flags.items c.wake_if-2.new.flags.items c.wake_if-3.new.flags.items
    (subst (λ (ps : List ℕ). AreWoken Nowhere c.args.moves.taken ps c.args.flags.now.items c.wake_if.new.flags.items) c.deref.ensures.value c.wake_if.ensures)
    (subst (λ (ps : List ℕ). AreWoken (IsUnblocked c.args.blocked.now) c.args.moves.taken ps c.wake_if.new.flags.items c.wake_blocked_if.new.flags.items) c.deref-2.ensures.value c.wake_blocked_if.ensures)
    (subst (λ (ps : List ℕ). AreWoken Nowhere c.args.moves.received ps c.wake_blocked_if.new.flags.items c.wake_if-2.new.flags.items) c.deref-3.ensures.value c.wake_if-2.ensures)
    (subst (λ (ps : List ℕ). AreWoken Nowhere c.args.moves.updated ps c.wake_if-2.new.flags.items c.wake_if-3.new.flags.items) c.deref-4.ensures.value c.wake_if-3.ensures)
    c.stays_awake.result _ c.stays_awake.ensures refl
