use Rattle.std.proofs.Common.{◌++◌, ◌∙◌, List, length, ℕ, ap}
use Rattle.reports.proofs.Writing.{ready}
use Rattle.findings_text.specs.Idle.{idle_text}
use Rattle.findings_text.specs.Summary.{summary_text}
use Rattle.findings_text.specs.Tree.{tree_text}
use Rattle.findings_text.specs.Witnesses.{findings_text, wanted_text}
use Rattle.findings_text.proofs.explanation.write_explanation.Goals as goal

pub returns : goal.returns
returns g c =
    let about : List ℕ = summary_text c.args.layout.now in
    let tree : List ℕ = tree_text c.args.layout.now c.args.remarks.now.names in
    let found : List ℕ = findings_text (length c.args.layout.now.functions) c.args.remarks.now c.args.findings.now in
    let idle : List ℕ = idle_text c.args.layout.now c.args.remarks.now.names c.args.findings.now in
    let wanted : List ℕ = wanted_text c.args.layout.now c.args.remarks.now.names c.args.findings.now c.args.wants_groups in
    let one = c.in_ok-write_summary.ensures ∙ ap (λ (l : List ℕ). l ++ about) c.new-text.ensures.items in
    let two = c.in_ok-write_tree.ensures ∙ ap (λ (l : List ℕ). l ++ tree) one in
    let three = c.in_ok-write_findings.ensures ∙ ap (λ (l : List ℕ). l ++ found) two in
    let four = c.in_ok-write_idle_controls.ensures ∙ ap (λ (l : List ℕ). l ++ idle) three in
    let made = c.deref.ensures.value ∙ (c.in_ok-write_wanted.ensures ∙ ap (λ (l : List ℕ). l ++ wanted) four) in
    ready _ _ (about ++ tree ++ found ++ idle ++ wanted) _ made c.in_ok-write_all.ensures.bytes
