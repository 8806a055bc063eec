use Rattle.std.proofs.Common.{◌≡◌, length, sym, subst, arith}
use Rattle.std.proofs.lemmas.List.{with_items_is}
use Rattle.tlp_view.specs.Runs.{runs}
use Rattle.function.specs.Pages.{Runs}
use Rattle.function.proofs.Running.{runs_written}
use Rattle.function.proofs.function.Function.change.Goals as goal

pub invariant_of-self : goal.invariant_of-self
invariant_of-self c =
    let page = c.deref_mut.result.now in
    let long : length page ≡ 4096 = omega (arith, c.self.invariant.long, c.deref_mut.ensures.len) in
    let is = subst Runs (sym c.deref_mut.ensures.value) c.self.invariant.runs in
    let after = subst Runs (sym c.write_page.ensures) (runs_written (runs c.args.request.now) page c.place_of.result long is) in
    record { long = c.self.invariant.long; runs = subst Runs (sym (with_items_is c.self.inside.bytes c.write_page.new.page (omega arith))) after }
