use Rattle.std.proofs.Common.{◌∙◌, ap}
use Rattle.thread_totals.specs.Crossing.{all_left}
use Rattle.thread_totals.proofs.Crossed.{all_wait}
use Rattle.thread_totals.proofs.totals.waiting.Goals as goal

pub returns : goal.returns
returns c = c.count_flying.ensures ∙ ap all_left (c.deref.ensures.value ∙ c.in_ok-flying.ensures) ∙ all_wait c.args.domain.now.state.flight
