use Rattle.std.proofs.Common.{rules, ◌≡◌, ◌∙◌, ℕ, ap, refl}
use Rattle.std.specs.Prelude.{option_map, string_bytes, Ok}
use Rattle.layout.specs.Reading.{reading}
use Rattle.findings_text.specs.Remarks.{Told, remarks_of}
use Rattle.findings_text.specs.Witnesses.{explanation_text}
use Rattle.commands.specs.Explained.{status_after}
use Rattle.commands.specs.ExplainScripts.{scripts_of}
use Rattle.commands.proofs.explain.explain.Goals as goal

pub returns-clause-ok : goal.returns-clause-ok
returns-clause-ok g c =
    let text = string_bytes c.in_ok-text.text in
    let folder = option_map (λ name. name.now) c.args.asked.scripts in
    let platform = c.in_ok-layout.layout in
    let told = c.in_ok-remarks.remarks in
    let found = c.in_ok-findings.findings in
    let same : told ≡ remarks_of text = search rules in
    let read : reading text ≡ Ok platform = search rules in (
      explanation_text platform told found c.args.asked.groups,
      scripts_of folder told found,
      record {
        layout_text = text;
        layout_file = c.in_ok-text.ensures.text;
        platform = platform;
        layout = read;
        findings = found;
        nothing = c.in_ok-findings.ensures.nothing;
        guarded = c.in_ok-findings.ensures.guarded;
        told = c.in_ok-findings.ensures.told;
        ends_is = c.status_after.ensures ∙ ap (status_after found) c.left_out_count.ensures.value ∙ ap (λ (t : Told). status_after found t.left_out) same;
        all = ap (λ (t : Told). explanation_text platform t found c.args.asked.groups) same;
        scripts = ap (λ (t : Told). scripts_of folder t found) same;
      },
      c.in_ok-write_explanation.ensures,
      c.in_ok-write_scripts.ensures.ok,
    )
