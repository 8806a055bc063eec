use Rattle.std.proofs.Common.{rules, ◌≡◌, ℕ, ap, ◌∙◌, List, [], ◌∷◌, ◌++◌, Ok, Err, refl, sym, inl, inr}
use Rattle.std.specs.Prelude.{string_bytes}
use Rattle.text_writers.specs.LayoutLineTexts.{layout_line_text}
use Rattle.layout.specs.Reading.{reading}
use Rattle.text_writers.proofs.drafts.Added.{accepted, refused, written}
use Rattle.text_writers.proofs.draft.Draft.add.Goals as goal

pub returns-in-Ok-clause-added : goal.returns-in-Ok-clause-added
returns-in-Ok-clause-added c =
    let said : string_bytes c.in_ok-longer.longer ≡ string_bytes c.self.inside.text ++ (string_bytes c.in_ok-more.more ++ (10 ∷ [])) = search rules in
    let more_is : string_bytes c.in_ok-more.more ≡ layout_line_text c.args.line.now = search rules in
    let same : c.self.inside.layout ≡ c.args.self.now.platform = search rules in
    let before : string_bytes c.self.inside.text ≡ c.args.self.now.text = search rules in
    let read : reading (string_bytes c.in_ok-longer.longer) ≡ Ok c.in-Ok.layout = rw c.deref.ensures at c.in-Ok.ensures.exact in
    let added = accepted (string_bytes c.self.inside.text) (string_bytes c.in_ok-more.more) c.args.self.now.platform c.in-Ok.layout c.args.line.now c.requires (c.self.invariant ∙ ap Ok same) more_is
    (sym (ap reading said) ∙ read) in
    (added.0, written _ _ _ _ added.1 (said ∙ ap (λ (text : List ℕ). text ++ (string_bytes c.in_ok-more.more ++ (10 ∷ []))) before ∙ ap (λ (line : List ℕ). c.args.self.now.text ++ (line ++ (10 ∷ []))) more_is))

pub returns-clause-added : goal.returns-clause-added
returns-clause-added c =
    let said : string_bytes c.in_ok-longer.longer ≡ string_bytes c.self.inside.text ++ (string_bytes c.in_ok-more.more ++ (10 ∷ [])) = search rules in
    let more_is : string_bytes c.in_ok-more.more ≡ layout_line_text c.args.line.now = search rules in
    let same : c.self.inside.layout ≡ c.args.self.now.platform = search rules in
    let against = λ (h : reading c.deref.result.now ≡ Err c.in-Err.fault).
    refused (string_bytes c.self.inside.text) (string_bytes c.in_ok-more.more) c.args.self.now.platform c.in-Err.fault c.args.line.now c.requires (c.self.invariant ∙ ap Ok same) more_is
    (sym (ap reading said) ∙ (rw c.deref.ensures at h)) in
    elim c.in-Err.ensures.exact [
      | inl h ↦ absurd (c.in_default.not-NoMemory h.0)
      | inr h ↦ (against h, refl)
    ]
