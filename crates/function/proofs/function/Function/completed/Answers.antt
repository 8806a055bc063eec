use Rattle.std.proofs.Common.{◌≡◌, length, sym, subst, arith}
use Rattle.std.proofs.lemmas.List.{with_items_is}
use Rattle.function.specs.Pages.{Runs}
use Rattle.function.proofs.Running.{runs_closed}
use Rattle.function.proofs.function.Function.completed.Goals as goal

pub invariant_of-self : goal.invariant_of-self
invariant_of-self c =
    let page = c.deref_mut.result.now in
    let long : length page ≡ 4096 = omega (arith, c.self.invariant.long, c.deref_mut.ensures.len) in
    let runs = subst Runs (sym c.deref_mut.ensures.value) c.self.invariant.runs in
    let after = subst Runs (sym c.close.ensures) (runs_closed page c.in-Line.offset c.in-Line.count c.args.status c.args.payload.now long runs) in
    record { long = c.self.invariant.long; runs = subst Runs (sym (with_items_is c.self.inside.bytes c.close.new.page (omega arith))) after }
