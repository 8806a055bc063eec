use Rattle.std.proofs.Common.{arith}
use Rattle.std.proofs.lemmas.Bool.{eqb-true}
use Rattle.tlp_view.proofs.RunsEnabled.{all_enabled}
use Rattle.tlp_view.proofs.runs.are_all_enabled.Goals as goal

pub returns-then-count-lt8-clause-all : goal.returns-then-count-lt8-clause-all
returns-then-count-lt8-clause-all c = λ i l h. all_enabled c.args.enables c.args.count i (omega (arith, c.if-enables-eq15.true)) (λ k. omega (arith, c.if-count-lt8.true, k))

pub returns-else-count-lt8-clause-all : goal.returns-else-count-lt8-clause-all
returns-else-count-lt8-clause-all c = λ i l h. all_enabled c.args.enables c.args.count i (omega (arith, c.if-enables-eq15.true)) (λ k. eqb-true c.args.enables.last 15 h)
