-- Two origins that are the same are equal.
use Rattle.std.proofs.Common.{◌≡◌, true, ap, eqb-true}
use Rattle.fab_types.specs.declared.origin.Origin.{Origin}
use Rattle.fab_types.specs.declared.origin.Origin.TheVariants.{Function, Host}
use Rattle.fab_types.specs.Origins.{same_origin}

pub one_origin : (a b : Origin) → same_origin a b ≡ true → a ≡ b
one_origin (Function f) (Function g) h = ap Function (eqb-true f g h)
one_origin (Function f) (Host d) h = absurd cc
one_origin (Host d) (Function g) h = absurd cc
one_origin (Host d) (Host e) h = ap Host (eqb-true d e h)
