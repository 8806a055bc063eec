use Rattle.injector.proofs.Faults.{submit_refused, mmio_refused}
use Rattle.injector.proofs.serving.perform.Goals as goal

pub returns-in-Err-clause-refused : goal.returns-in-Err-clause-refused
returns-in-Err-clause-refused c =
    submit_refused c.args.domain.now c.args.ask.now c.in-Submit.function c.in-Submit.bytes c.as_slice.result.now c.in-Err.fault c.in-Submit.is c.as_slice.ensures.value c.in-Err.ensures.refused

pub returns-in-Err-mmio-clause-refused : goal.returns-in-Err-mmio-clause-refused
returns-in-Err-mmio-clause-refused c =
    mmio_refused c.args.domain.now c.args.ask.now c.in-Mmio.access c.in-Err-mmio.fault c.in-Mmio.is c.in-Err-mmio.ensures.refused
