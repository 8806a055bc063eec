use Rattle.std.proofs.Common.{inr}
use Rattle.inputs.proofs.Faults.{handed_on}
use Rattle.commands.proofs.Faults.{or_run, writer_fault}
use Rattle.commands.proofs.run.alone.Goals as goal

pub returns-clause-ok : goal.returns-clause-ok
returns-clause-ok g c =
    let written = c.in_ok-write_part.ensures in (
      written.0,
      record {
        platform = c.in_ok-inputs.inputs.layout;
        lines = c.in_ok-inputs.inputs.script;
        share = c.in_ok-inputs.inputs.start;
        inputs = c.in_ok-inputs.ensures.inputs;
        domain = c.in_ok-domain.domain;
        replayed = rw c.into_lines.ensures at c.in_ok-domain.ensures.ok;
        part = written.1;
      },
      written.2,
    )

pub returns-in_err-inputs-clause-fault : goal.returns-in_err-inputs-clause-fault
returns-in_err-inputs-clause-fault g c =
    handed_on c.from_residual.result c.in_err-inputs.field-0.0 _ c.from_residual.ensures.1 (or_run _ _ _ _ _ _ _ c.in_err-inputs.ensures.fault)

pub replayed-requires : goal.replayed-requires
replayed-requires g c = (c.args.number, c.in_ok-inputs.ensures.inputs.owner)

pub returns-in_err-write_part-clause-fault : goal.returns-in_err-write_part-clause-fault
returns-in_err-write_part-clause-fault g c =
    writer_fault c.from_residual-in_err-write_part.result c.in_err-write_part.field-0.0 _ c.from_residual-in_err-write_part.ensures.1 (λ f run. inr (inr (inr (inr (inr (inr (run)))))))
