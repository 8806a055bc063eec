use Rattle.std.proofs.Common.{rules}
use Rattle.std.proofs.lemmas.List.Sorted.{answers_always}
use Rattle.host_table.proofs.Rising.{searched}
use Rattle.host_table.proofs.groups.place_by_halves.Goals as goal

-- each call of the closure gives the key
pub returns : goal.returns
returns c =
    let facts = c.binary_search_by_key.ensures in
    let by_key = facts.position (λ x. x.page) (answers_always _ _ _ (λ f a r g called. search rules)) in
    searched (λ x. x.page) c.args.lines.now c.requires c.args.page _ facts.bound by_key
