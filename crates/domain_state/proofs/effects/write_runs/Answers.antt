use Rattle.std.proofs.Common.{◌≡◌, length, ap, sym, subst, ◌∙◌}
use Rattle.std.specs.List.{AllByRecursion}
use Rattle.tlp_view.specs.Runs.{runs}
use Rattle.domain_state.proofs.PageFits.{IsWithin, runs-within}
use Rattle.domain_state.specs.Ends.{stored}
use Rattle.domain_state.proofs.effects.write_runs.Goals as goal

pub loop-offset-init : goal.loop-offset-init
loop-offset-init c =
    let t = c.args.view.now in let e : c.into_iter-offset-iterator.result ≡ runs t = c.into_iter-offset-iterator.ensures.into_iter_gives ∙ c.runs-offset-items.ensures in record {
      whole = ap (stored c.args.memory.now c.args.frame c.args.first) e;
      within = subst (AllByRecursion (IsWithin 0 (length t.payload))) (sym e) (runs-within t);
      fits = c.requires;
    }
