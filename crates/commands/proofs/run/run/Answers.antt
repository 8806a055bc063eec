use Rattle.std.proofs.Common.{◌++◌, inr, refl}
use Rattle.reports.proofs.Writing.{joined}
use Rattle.inputs.proofs.Faults.{among, handed_on}
use Rattle.commands.proofs.Faults.{writer_fault}
use Rattle.commands.proofs.run.run.Goals as goal

pub returns-clause-ok : goal.returns-clause-ok
returns-clause-ok g c =
    let layout = c.in_ok-layout.ensures.layout in
    let script = c.in_ok-script.ensures.script in
    let refused = c.in_ok-fabric.ensures.ok in
    let written = c.in_ok-write_report.ensures in (
      refused.0 ++ written.0,
      record {
        platform = c.in_ok-layout.layout;
        lines = c.in_ok-script.script;
        files = record { layout_text = layout.0; layout_file = layout.1; layout = layout.2; script_text = script.0; script_file = script.1; script = script.2 };
        world = c.in_ok-fabric.fabric;
        refused = refused.0;
        driven = rw c.into_lines.ensures at refused.1;
        isolated = rw c.into_lines.ensures at c.in_ok-fabric.ensures.isolated;
        settled = c.in_ok-fabric.ensures.settled;
        report = written.0;
        reports = written.1;
        all = refl;
      },
      joined _ _ _ _ _ refused.2 written.2,
    )

pub returns-in_err-script-clause-fault : goal.returns-in_err-script-clause-fault
returns-in_err-script-clause-fault g c =
    handed_on c.from_residual-in_err-script.result c.in_err-script.field-0.0 _ c.from_residual-in_err-script.ensures.1 (among _ _ _ _ _ _ c.in_err-script.ensures.fault)

pub returns-in_err-write_report-clause-fault : goal.returns-in_err-write_report-clause-fault
returns-in_err-write_report-clause-fault g c =
    writer_fault c.from_residual-in_err-write_report.result c.in_err-write_report.field-0.0 _ c.from_residual-in_err-write_report.ensures.1 (λ f run. inr (inr (inr (inr (inr (run))))))
