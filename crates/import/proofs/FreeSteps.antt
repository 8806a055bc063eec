-- A walk of some numbers looks at one, and then walks one less.
use Rattle.std.proofs.Common.{◌≡◌, ℕ, zero, suc, ◌+◌, ◌<◌, ◌-◌, cond, List, refl, arith}
use Rattle.platform.specs.declared.parts.DownstreamPort.{DownstreamPort}
use Rattle.import.specs.declared.owners.Owner.{Owner}
use Rattle.import.specs.Domains.{free_from, is_given}

pub free_none : (owners : List Owner) (ports : List DownstreamPort) (left number : ℕ) → left ≡ 0 → free_from owners ports left number ≡ number
unfolding free_from
free_none owners ports zero number e = refl
free_none owners ports (suc left) number e = absurd (omega arith)

pub free_step : (owners : List Owner) (ports : List DownstreamPort) (left number : ℕ) → 0 < left
    → free_from owners ports left number ≡ cond (is_given owners ports number) (free_from owners ports (left - 1) (number + 1)) number
unfolding free_from
free_step owners ports zero number h = absurd (omega arith)
free_step owners ports (suc left) number h = let e : suc left - 1 ≡ left = omega arith in rw e refl
