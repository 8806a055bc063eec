use Rattle.std.proofs.Common.{◌≡◌, ◌≤◌, All, length, vec_capacity, [], Vec, Global}
use Rattle.function.specs.declared.tags.OpenTag.{OpenTag}
use Rattle.function.proofs.open_tags.OpenTags.new.Given as goal

-- each list is empty so far
abbrev pub invariant-loop : goal.invariant-loop
invariant-loop l = (length l.numbers.items ≡ l.counter) × All (λ (tags : Vec OpenTag Global). tags.items ≡ []) l.numbers.items × (256 ≤ vec_capacity l.numbers)
