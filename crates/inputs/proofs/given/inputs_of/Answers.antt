use Rattle.inputs.proofs.Faults.{among, handed_on}
use Rattle.inputs.proofs.given.inputs_of.Goals as goal

pub returns-in_err-script-clause-fault : goal.returns-in_err-script-clause-fault
returns-in_err-script-clause-fault g c =
    handed_on c.from_residual-in_err-script.result c.in_err-script.field-0.0 _ c.from_residual-in_err-script.ensures.1 (among _ _ _ _ _ _ c.in_err-script.ensures.fault)
