use Rattle.std.proofs.Common.{◌≡◌, ◌∙◌, ◌<◌, ℕ, List, Option, Some, None, IfSome, ap₂, arith, get_or, length, sym}
use Rattle.std.proofs.lemmas.List.{get_or_default}
use Rattle.host_memory.specs.declared.page.Page.{Page}
use Rattle.host_memory.specs.Memory.{ArePlaced, page_at}
use Rattle.host_memory.proofs.Placed.{standing}
use Rattle.host_memory.proofs.Zipped.{page_of_standing, page_of_absent}
use Rattle.host_memory.proofs.memory.HostMemory.page.Goals as goal

low : (places : List (Option ℕ)) (pages : List Page) (capacity at : ℕ) (o : Option ℕ) → ArePlaced places pages capacity → o ≡ get_or places at None → IfSome o (λ place. place < length pages)
low places pages capacity at None are is = tt
low places pages capacity at (Some place) are is = are.within at place (sym is)

pub bytes_at-requires : goal.bytes_at-requires
bytes_at-requires c =
    let found = rw c.deref.ensures.value at c.in-Some.ensures in
    rw c.deref-in-Some.ensures.value (low c.self.inside.places.items c.self.inside.pages.items _ c.in-Some.at c.index.result.now c.self.invariant.placed
    (c.index.ensures ∙ get_or_default c.self.inside.places.items c.in-Some.at c.index.result.now None (omega (arith, found.0))))

pub returns-in-Some-clause-bytes : goal.returns-in-Some-clause-bytes
returns-in-Some-clause-bytes c =
    let found = rw c.deref.ensures.value at c.in-Some.ensures in
    let here = c.index.ensures ∙ get_or_default c.self.inside.places.items c.in-Some.at c.index.result.now None (omega (arith, found.0)) in
    rw (← c.self.view_is) (page_of_standing c.self.inside.numbers.items _ c.args.frame c.in-Some.at c.bytes_at.result.now
    (standing c.self.inside.numbers.items c.self.inside.places.items c.self.inside.pages.items c.args.frame c.in-Some.at c.self.invariant.rising (omega arith) found.0 found.1 c.bytes_at.result.now
    (c.bytes_at.ensures.value ∙ ap₂ page_at c.deref-in-Some.ensures.value here)))

pub returns-in-None-clause-bytes : goal.returns-in-None-clause-bytes
returns-in-None-clause-bytes c =
    let absent = rw c.deref.ensures.value at c.in-None.ensures in
    rw (← c.self.view_is) (sym (page_of_absent _ _ _ absent))
