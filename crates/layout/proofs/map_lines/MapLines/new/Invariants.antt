use Rattle.std.proofs.Common.{◌≡◌, ◌≤◌, All, length, vec_capacity, [], Vec, Global}
use Rattle.platform.specs.declared.parts.Mapping.{Mapping}
use Rattle.layout.proofs.map_lines.MapLines.new.Given as goal

-- each list is empty so far
abbrev pub invariant-loop : goal.invariant-loop
invariant-loop l = (length l.buses.items ≡ l.counter) × All (λ (lines : Vec Mapping Global). lines.items ≡ []) l.buses.items × (256 ≤ vec_capacity l.buses)
