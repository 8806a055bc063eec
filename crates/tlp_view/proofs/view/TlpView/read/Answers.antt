use Rattle.std.proofs.Common.{arith}
use Rattle.tlp_view.proofs.Reading.{found_from, only_from}
use Rattle.tlp_view.proofs.view.TlpView.read.Goals as goal

pub returns-clause-found : goal.returns-clause-found
returns-clause-found c =
    found_from c.args.bytes.now c.parse.result (λ i. omega (arith, c.type_inv.bytes i)) (c.parse.ensures.value, c.parse.ensures.cause)

pub returns-clause-only : goal.returns-clause-only
returns-clause-only c = only_from c.args.bytes.now c.parse.result (c.parse.ensures.value, c.parse.ensures.cause)
