use Rattle.std.proofs.Common.{rules}
use Rattle.std.proofs.lemmas.List.Sorted.{answers_always}
use Rattle.host_table.proofs.Rising.{searched}
use Rattle.host_table.proofs.index.place_of_requester.Goals as goal

-- each call of the closure gives the key
pub returns : goal.returns
returns c =
    let facts = c.binary_search_by_key.ensures in
    let by_key = facts.position (λ entry. entry.requester) (answers_always _ _ _ (λ f a r g called. search rules)) in
    searched (λ entry. entry.requester) c.args.index.now c.requires c.args.requester _ facts.bound (rw c.bits.ensures.value at by_key)
