-- Places that an index of boxes gives.
use Rattle.std.proofs.Common.{◌≡◌, ℕ, ◌<◌, Bool, List, [], ◌∷◌, length, Some}
use Rattle.std.specs.List.{position}
use Rattle.std.proofs.lemmas.List.Quantifiers.{position-Some}
use Rattle.fab_types.specs.declared.origin.Origin.{Origin}
use Rattle.fab_types.specs.Origins.{same_origin}
use Rattle.outboxes.specs.Outboxes.{BoxView, box_place}

-- the first that passes is one of the list
position_within : {X : Type 0} (p : X → Bool) (xs : List X) (i : ℕ) → position p xs ≡ Some i → i < length xs
position_within p [] i at = absurd cc
position_within p (x ∷ xs) i at = (position-Some p (x ∷ xs) i x at).0

-- and so is the box of an origin
pub place_within : (boxes : List BoxView) (origin : Origin) (place : ℕ) → box_place boxes origin ≡ Some place → place < length boxes
unfolding box_place
place_within boxes origin place at = position_within (λ b. same_origin b.origin origin) boxes place at
