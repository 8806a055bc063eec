use Rattle.std.proofs.Common.{sym, subst}
use Rattle.function.specs.Pages.{Runs}
use Rattle.function.proofs.FirstPage.{first_page-runs}
use Rattle.function.proofs.function.Function.new.Goals as goal

pub invariant_of-result : goal.invariant_of-result
invariant_of-result c = record { long = c.in_ok-bytes.ensures.len; runs = subst Runs (sym c.in_ok-bytes.ensures.items) (first_page-runs c.args.id) }
