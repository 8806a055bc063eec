use Rattle.std.proofs.Common.{◌∙◌, ◌<◌, List, ap, length, subst, sym, ℕ}
use Rattle.std.specs.Prelude.{All}
use Rattle.sweeps.specs.declared.watchpoint.Watchpoint.{Watchpoint}
use Rattle.sweeps.proofs.Sleeping.{begun_within, begun_woken}
use Rattle.sweeps.proofs.wakeful.Wakeful.wake_begun.Goals as goal

pub wake-requires : goal.wake-requires
wake-requires c =
    let within = begun_within c.args.watchpoints.now c.args.event.now c.in-Some.place c.in-Some.ensures c.index-watchpoints-place.result c.index-watchpoints-place.is (length c.args.self.now.flags.items) c.requires.all c.requires.within in
    subst (λ (places : List ℕ). All (λ place. place < length c.args.self.now.flags.items) places) (sym (c.deref.ensures.value ∙ ap (λ (watchpoint : Watchpoint). watchpoint.by_taking.items) (sym c.index-watchpoints-place.is))) within.taking

pub returns-in-Some-clause-woken : goal.returns-in-Some-clause-woken
returns-in-Some-clause-woken c =
    begun_woken c.args.watchpoints.now c.args.event.now c.in-Some.place c.in-Some.ensures c.index-watchpoints-place.result c.index-watchpoints-place.is c.deref.result.now c.args.self.now.flags.items c.wake.new.flags.items (c.deref.ensures.value ∙ ap (λ (watchpoint : Watchpoint). watchpoint.by_taking.items) (sym c.index-watchpoints-place.is)) c.wake.ensures
