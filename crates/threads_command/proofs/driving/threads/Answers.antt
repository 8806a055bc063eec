use Rattle.inputs.proofs.Faults.{among, handed_on}
use Rattle.threads_command.proofs.driving.threads.Goals as goal

pub returns-clause-ok : goal.returns-clause-ok
returns-clause-ok g c =
    let layout = c.in_ok-layout.ensures.layout in
    let script = c.in_ok-script.ensures.script in
    let written = c.in_ok-write_report.ensures in (
      written.0,
      record {
        platform = c.in_ok-layout.layout;
        lines = c.in_ok-script.script;
        files = record { layout_text = layout.0; layout_file = layout.1; layout = layout.2; script_text = script.0; script_file = script.1; script = script.2 };
        refused = c.in_ok-ran.ran.refusals;
        stopped = c.in_ok-ran.ran.stopped;
        stops = rw c.into_lines.ensures at c.in_ok-ran.ensures.ok;
        report = written.1;
      },
      written.2,
    )

pub returns-in_err-script-clause-fault : goal.returns-in_err-script-clause-fault
returns-in_err-script-clause-fault g c =
    handed_on c.from_residual-in_err-script.result c.in_err-script.field-0.0 _ c.from_residual-in_err-script.ensures.1 (among _ _ _ _ _ _ c.in_err-script.ensures.fault)
