use Rattle.std.proofs.Common.{◌≡◌, length, ap, ◌+◌, ◌≤◌, ◌∙◌, sym, subst}
use Rattle.std.specs.List.{AllByRecursion}
use Rattle.tlp_view.specs.Runs.{runs}
use Rattle.tlp_view.proofs.RunsWithin.{runs-within_each}
use Rattle.function.specs.Registers.{write_page}
use Rattle.function.proofs.registers.write_page.Goals as goal

pub loop-offset-init : goal.loop-offset-init
loop-offset-init c =
    let t = c.args.request.now in
    let e : c.into_iter-offset-iterator.result ≡ runs t = c.into_iter-offset-iterator.ensures.into_iter_gives ∙ c.runs-offset-items.ensures in
    record {
      whole = ap (write_page c.args.page.now c.args.first) e;
      within = subst (AllByRecursion (λ run. run.0 + length run.1 ≤ length t.payload)) (sym e) (runs-within_each t);
      size = c.requires.size;
      inside = c.requires.inside;
    }
