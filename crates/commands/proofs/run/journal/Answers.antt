use Rattle.std.proofs.Common.{◌≡◌, ◌++◌, ◌∙◌, List, ℕ, None, Some, ap, inr, refl, sym}
use Rattle.journal_text.specs.Journals.{journal_text}
use Rattle.reports.proofs.Writing.{ready}
use Rattle.inputs.proofs.Faults.{handed_on}
use Rattle.commands.proofs.Faults.{or_run, writer_fault}
use Rattle.commands.proofs.run.journal.Goals as goal

pub returns-clause-ok : goal.returns-clause-ok
returns-clause-ok g c =
    let refused = c.in_ok-fabric.ensures.ok in
    let domain = c.in-Some.domain.now in (
      journal_text domain.share domain.journal,
      record {
        platform = c.in_ok-inputs.inputs.layout;
        lines = c.in_ok-inputs.inputs.script;
        share = c.in_ok-inputs.inputs.start;
        inputs = c.in_ok-inputs.ensures.inputs;
        domain = domain;
        run = record {
          world = c.in_ok-fabric.fabric;
          refused = refused.0;
          driven = rw c.into_lines.ensures at refused.1;
          isolated = rw c.into_lines.ensures at c.in_ok-fabric.ensures.isolated;
          there = sym (rw c.domain.ensures at c.in-Some.ensures);
        };
        journal = refl;
        read_back = c.in_ok-write_journal.ensures.read_back;
      },
      ready _ _ (journal_text domain.share domain.journal) _ (c.deref.ensures.value ∙ c.in_ok-write_journal.ensures.written ∙ ap (λ (l : List ℕ). l ++ journal_text domain.share domain.journal) c.new-text.ensures.items) c.in_ok-write_all.ensures.bytes,
    )

pub returns-in_err-inputs-clause-fault : goal.returns-in_err-inputs-clause-fault
returns-in_err-inputs-clause-fault g c =
    handed_on c.from_residual.result c.in_err-inputs.field-0.0 _ c.from_residual.ensures.1 (or_run _ _ _ _ _ _ _ c.in_err-inputs.ensures.fault)

pub unreachable-requires : goal.unreachable-requires
unreachable-requires g c =
    let has = c.in_ok-fabric.ensures.owners c.in_ok-inputs.inputs.start (c.args.number, c.in_ok-inputs.ensures.inputs.owner) in
    let clash : None ≡ Some has.domain = rw c.domain.ensures at c.in_default.ensures ∙ has.there in
    cc

pub returns-in_err-write_journal-clause-fault : goal.returns-in_err-write_journal-clause-fault
returns-in_err-write_journal-clause-fault g c =
    writer_fault c.from_residual-in_err-write_journal.result c.in_err-write_journal.field-0.0 _ c.from_residual-in_err-write_journal.ensures.1 (λ f run. inr (inr (inr (inr (inr (inr (run)))))))

pub returns-in_err-write_all-clause-fault : goal.returns-in_err-write_all-clause-fault
returns-in_err-write_all-clause-fault g c =
    writer_fault c.from_residual-in_err-write_all.result c.in_err-write_all.field-0.0 _ c.from_residual-in_err-write_all.ensures.1 (λ f run. inr (inr (inr (inr (inr (inr (run)))))))
