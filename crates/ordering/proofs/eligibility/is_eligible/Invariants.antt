use Rattle.std.proofs.Common.{◌≡◌, drop}
use Rattle.ordering.specs.Ordering.{has_eligible}
use Rattle.ordering.proofs.eligibility.is_eligible.Given as goal

-- each packet so far may be passed, so the rest decides
abbrev pub invariant-loop-older : goal.invariant-loop-older
invariant-loop-older l = has_eligible (λ c. c) l.class l.classes ≡ has_eligible (λ c. c) l.class (drop l.older-index l.classes)
