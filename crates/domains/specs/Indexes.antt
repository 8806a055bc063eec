-- An index of domains.
use Rattle.std.specs.Prelude.{◌≡◌, ℕ, List, Option, Some}
use Rattle.fab_types.specs.declared.origin.Origin.{Origin}
use Rattle.fab_types.specs.declared.origin.Origin.TheVariants.{Function, Host}
use Rattle.outboxes.specs.declared.origin_index.OriginIndex.{OriginIndex}
use Rattle.outboxes.specs.OriginIndexes.{noted_place}
use Rattle.domain.specs.Domains.{DomainView}
use Rattle.domains.specs.Domains.{place_of, place_of_function}

-- the place of the domain that a function or a host is of
abbrev pub place_of_origin : List DomainView → Origin → Option ℕ
place_of_origin domains (Function f) = place_of_function domains f
place_of_origin domains (Host n) = place_of domains n

-- each place that was noted for a function or a host is that of its domain
abbrev pub IsIndexOf : OriginIndex → List DomainView → Type 0
IsIndexOf index domains = (origin : Origin) (place : ℕ) → noted_place index origin ≡ Some place → place_of_origin domains origin ≡ Some place
