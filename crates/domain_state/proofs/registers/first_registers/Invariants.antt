use Rattle.std.proofs.Common.{◌≡◌, take}
use Rattle.std.specs.Prelude.{filter, map}
use Rattle.function.specs.Registers.{first_page}
use Rattle.platform.specs.Owners.{is_own_function}
use Rattle.domain_state.proofs.registers.first_registers.Given as goal

abbrev pub invariant-loop-line : goal.invariant-loop-line
invariant-loop-line l =
    l.made.items ≡ map (λ line. (line.id, first_page line.id)) (filter (λ line. is_own_function l.start line.id) (take l.line-index l.line-items))
