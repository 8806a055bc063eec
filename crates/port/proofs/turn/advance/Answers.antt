use Rattle.std.proofs.Common.{refl, sym, ap, ◌∙◌, inr}
use Rattle.switch_output.specs.Vetted.{frame_in}
use Rattle.port.proofs.Stopping.{none_held}
use Rattle.port.proofs.turn.advance.Goals as goal

pub returns-clause-moved : goal.returns-clause-moved
returns-clause-moved g c = λ e. let w = c.settle_at.ensures.put c.if-not-settle_at.false in
    rw (← c.port.view_is) (inr (record {
      free = none_held _ (sym c.is_some.ensures ∙ c.if-is_some.false);
      between = _;
      settled = record { put = w.1; kept = ap frame_in w.0; same = (refl, refl, refl, refl, refl) };
      advanced = c.proceed.ensures.moved e;
    }))
