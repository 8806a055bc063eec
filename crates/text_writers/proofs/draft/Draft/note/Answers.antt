use Rattle.std.proofs.Common.{rules, ◌≡◌, [], ◌∷◌, ◌++◌}
use Rattle.std.specs.Prelude.{string_bytes}
use Rattle.text_writers.proofs.drafts.Added.{commented}
use Rattle.text_writers.proofs.draft.Draft.note.Goals as goal

pub invariant_of-self : goal.invariant_of-self
invariant_of-self c =
    let said : string_bytes c.in_ok-self-inside.field-0 ≡ string_bytes c.self.inside.text ++ (35 ∷ 32 ∷ (c.args.comment.now ++ (10 ∷ []))) = search rules in
    rw said (commented (string_bytes c.self.inside.text) c.args.comment.now c.self.inside.layout c.requires c.self.invariant)
