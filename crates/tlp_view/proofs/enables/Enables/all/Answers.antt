use Rattle.std.proofs.Common.{◌≡◌, cond}
use Rattle.std.proofs.lemmas.Bool.{eq-eqb, ne_eqb}
use Rattle.std.proofs.Common.{subst, false}
use Rattle.tlp_view.specs.Malformed.{has_bad_enables}
use Rattle.tlp_view.proofs.Requested.{all_fine}
use Rattle.tlp_view.proofs.enables.Enables.all.Goals as goal

pub returns-then-count-eq1-clause-fine : goal.returns-then-count-eq1-clause-fine
returns-then-count-eq1-clause-fine c = λ address. subst (λ b. has_bad_enables c.args.count address 15 (cond b 0 15) ≡ false) (eq-eqb c.args.count 1 c.if-count-eq1.true) (all_fine c.args.count address c.requires)

pub returns-else-count-eq1-clause-fine : goal.returns-else-count-eq1-clause-fine
returns-else-count-eq1-clause-fine c = λ address. subst (λ b. has_bad_enables c.args.count address 15 (cond b 0 15) ≡ false) (ne_eqb c.args.count 1 c.if-count-eq1.false) (all_fine c.args.count address c.requires)
