use Rattle.std.proofs.Common.{◌≡◌, ℕ, List, IfOk, subst, ◌∙◌}
use Rattle.topology.specs.FirstIndexes.{firsts_of}
use Rattle.topology.proofs.topology.index_links.Goals as goal

pub returns : goal.returns
returns c = subst (λ (buses : List ℕ). IfOk c.new.result (λ index. index ≡ firsts_of 256 buses)) (c.deref.ensures.value ∙ c.in_ok-buses_of_links.ensures) c.new.ensures
