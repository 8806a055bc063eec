use Rattle.std.proofs.Common.{◌≡◌, ◌∙◌, ℕ, List, Option, None, ap, ap₂, length, map, replicate, rules}
use Rattle.std.specs.List.{zip}
use Rattle.host_memory.specs.Pages.{zeroed, zeros}
use Rattle.host_memory.specs.Memory.{page_at}
use Rattle.host_memory.proofs.Zipped.{zip-replicate}
use Rattle.host_memory.proofs.Placed.{replicated}
use Rattle.host_memory.proofs.memory.HostMemory.new.Goals as goal

pub returns : goal.returns
returns c =
    let numbers = c.frames-frames.result.now in
    let none : c.in_ok-places.places.items ≡ replicate (length numbers) None = c.in_ok-places.ensures.items_if_clones_equal (search rules) in
    ap₂ (λ (ns : List ℕ) (ps : List (Option ℕ)). zip ns (map (page_at c.in_ok-pages.pages.items) ps)) c.in_ok-numbers.ensures.items none
    ∙ ap (zip numbers) (replicated (page_at c.in_ok-pages.pages.items) (length numbers) None)
    ∙ zip-replicate numbers (zeros 4096) ∙ ap zeroed c.frames-frames.ensures.value
