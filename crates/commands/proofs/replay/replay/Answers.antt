use Rattle.std.proofs.Common.{◌≡◌, ℕ, ap, inl, inr, refl, Err, Result}
use Rattle.std.specs.Prelude.{string_bytes}
use Rattle.domain.specs.Domains.{DomainView}
use Rattle.journal_text.specs.declared.replaying.LineFault.{LineFault}
use Rattle.journal_text.specs.declared.replaying.LineFault.TheVariants as line_faults
use Rattle.inputs.specs.declared.fault.Fault.TheVariants as fault
use Rattle.commands.specs.ReplayRefusals.{HasIllegalEntry}
use Rattle.commands.proofs.Faults.{line_fault, writer_fault}
use Rattle.commands.proofs.replay.replay.Goals as goal

pub returns-clause-ok : goal.returns-clause-ok
returns-clause-ok g c =
    let layout = c.in_ok-layout.ensures.layout in
    let written = c.in_ok-write_part.ensures in (
      written.0,
      record {
        share = c.in_ok-start.start;
        file_text = string_bytes c.in_ok-text.text;
        files = record { layout_text = layout.0; layout_file = layout.1; platform = c.in_ok-layout.layout; layout = layout.2; owner = c.in_ok-start.ensures.ok; journal_file = c.in_ok-text.ensures.text };
        lines = c.in_ok-journal.journal;
        journal = rw (c.domain.ensures, c.as_str.ensures.value) at c.in_ok-journal.ensures.journal;
        domain = c.in_ok-domain.domain;
        share_is = c.in_ok-domain.ensures.journal.1;
        entries = rw c.lines.ensures at c.in_ok-domain.ensures.journal.0;
        replays = rw c.lines.ensures at c.in_ok-domain.ensures.state;
        part = written.1;
      },
      written.2,
    )

pub returns-in_err-domain-clause-fault : goal.returns-in_err-domain-clause-fault
returns-in_err-domain-clause-fault g c =
    let layout = c.in_ok-layout.ensures.layout in
    let x = c.in_err-domain.field-0.0 in
    let failed : LineFault → Result DomainView LineFault = λ f. Err f in
    let illegal : (line : ℕ) → x ≡ line_faults.Illegal line → HasIllegalEntry (g.F.FileGiver.holds c.args.files.now) c.args.layout_name.now c.args.journal_name.now c.args.number (fault.IllegalEntry line) =
    λ line is. record {
      share = c.in_ok-start.start;
      text = string_bytes c.in_ok-text.text;
      files = record { layout_text = layout.0; layout_file = layout.1; platform = c.in_ok-layout.layout; layout = layout.2; owner = c.in_ok-start.ensures.ok; journal_file = c.in_ok-text.ensures.text };
      lines = c.in_ok-journal.journal;
      journal = rw (c.domain.ensures, c.as_str.ensures.value) at c.in_ok-journal.ensures.journal;
      line = line;
      illegal = rw c.lines.ensures at c.in_err-domain.ensures.illegal line (ap failed is);
      named = refl;
    } in
    line_fault c.from_residual-in_err-domain.result x _ c.from_residual-in_err-domain.ensures.1 (inl refl) (λ line is. inr (inr (inr (inr (inr (inr (inl (illegal line is))))))))

pub returns-in_err-write_part-clause-fault : goal.returns-in_err-write_part-clause-fault
returns-in_err-write_part-clause-fault g c =
    writer_fault c.from_residual-in_err-write_part.result c.in_err-write_part.field-0.0 _ c.from_residual-in_err-write_part.ensures.1 (λ f run. inr (inr (inr (inr (inr (inr (inr run)))))))
