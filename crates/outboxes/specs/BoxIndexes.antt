-- An index of boxes.
use Rattle.std.specs.Prelude.{◌≡◌, ℕ, List, Some}
use Rattle.fab_types.specs.declared.origin.Origin.{Origin}
use Rattle.outboxes.specs.declared.origin_index.OriginIndex.{OriginIndex}
use Rattle.outboxes.specs.OriginIndexes.{noted_place}
use Rattle.outboxes.specs.Outboxes.{AreFound, BoxView, box_place}

-- each place that was noted for an origin is that of its box
abbrev pub IsIndexOf : OriginIndex → List BoxView → Type 0
IsIndexOf index boxes = (origin : Origin) (place : ℕ) → noted_place index origin ≡ Some place → box_place boxes origin ≡ Some place

-- what all outboxes keep
pub record AreKept (index : OriginIndex) (boxes : List BoxView) : Type 0 where
  pub indexed : IsIndexOf index boxes
  pub found : AreFound boxes
