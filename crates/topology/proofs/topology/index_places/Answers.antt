use Rattle.std.proofs.Common.{◌≡◌, ℕ, List, IfOk, subst, ◌∙◌}
use Rattle.topology.specs.FirstIndexes.{firsts_of}
use Rattle.topology.proofs.topology.index_places.Goals as goal

pub returns : goal.returns
returns c = subst (λ (slots : List ℕ). IfOk c.new.result (λ index. index ≡ firsts_of 8192 slots)) (c.deref.ensures.value ∙ c.in_ok-slots_of_places.ensures) c.new.ensures
