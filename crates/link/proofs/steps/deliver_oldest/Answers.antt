use Rattle.std.proofs.Common.{refl, sym}
use Rattle.link.proofs.Stepping.{none_waits}
use Rattle.link.proofs.steps.deliver_oldest.Goals as goal

pub returns-in_default-clause-rests : goal.returns-in_default-clause-rests
returns-in_default-clause-rests c =
    let empty = none_waits c.args.wire.now c.pop_front.new.self (sym c.in_default.ensures.value) c.in_default.ensures.items in
    λ f. (empty.0, empty.1, refl)
