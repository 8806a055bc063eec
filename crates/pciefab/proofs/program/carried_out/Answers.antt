use Rattle.reports.proofs.Writing.{kept_after}
use Rattle.pciefab.proofs.program.carried_out.Goals as goal

pub returns : goal.returns
returns g c = λ asked ask. let done = c.in_ok-status.ensures asked (c.in_ok-request.ensures.asked asked ask) in
    (done.0, done.1, done.2, kept_after _ _ _ _ done.3 c.in_ok-flush.ensures.bytes, done.4)
