use Rattle.std.proofs.Common.{rules, ◌≡◌, ap, sym, ◌∙◌}
use Rattle.layout.specs.Reading.{reading}
use Rattle.text_writers.specs.Drafts.{start_text}
use Rattle.text_writers.proofs.drafts.Begins.{start-read}
use Rattle.text_writers.proofs.draft.Draft.start.Goals as goal

pub returns-in-Ok : goal.returns-in-Ok
returns-in-Ok c =
    let text : c.deref.result.now ≡ start_text c.args.version = search rules in
    let is = sym (start-read c.args.version) ∙ (sym (ap reading text) ∙ c.in-Ok.ensures.exact) in
    cc
