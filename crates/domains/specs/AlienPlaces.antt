-- Places that outboxes get for what an alien packet may lead to.
use Rattle.std.specs.Prelude.{◌≡◌, ℕ, ◌==◌, ◌≤◌, Bool, List, map, Some, option_map}
use Rattle.fab_types.specs.declared.origin.Origin.{Origin}
use Rattle.fab_types.specs.declared.origin.Origin.TheVariants.{Function, Host}
use Rattle.platform.specs.Owners.{is_own_function}
use Rattle.platform.specs.Share.{Share}
use Rattle.domain.specs.Domains.{DomainView}
use Rattle.outboxes.specs.Outboxes.{BoxView, box_of, with_more}
use Rattle.domains.specs.Domains.{place_of}
use Rattle.domains.specs.Agents.{home_of}
use Rattle.domains.specs.AgentsKept.{outbox_of}

-- is it an origin of the domain with this share?
abbrev pub is_of : Share → Origin → Bool
is_of share (Function f) = is_own_function share f
is_of share (Host n) = share.domain == n

-- the box of an origin has at least so many places more, and else it is as it was
pub record HasMore (least : ℕ) (old new : List BoxView) (origin : Origin) : Type 0 where
  pub places : ℕ
  pub enough : least ≤ places
  pub is : box_of new origin ≡ option_map (with_more places) (box_of old origin)

-- no box changed but by places more, and what waits is as it was
pub record IsGrown (old new : List BoxView) : Type 0 where
  pub each : (origin : Origin) → HasMore 0 old new origin
  pub waiting : map outbox_of new ≡ map outbox_of old

-- the boxes of the domain with this number have two places more, for the packets that an alien one may lead to
abbrev pub HasPlaces : List DomainView → ℕ → List BoxView → List BoxView → Type 0
HasPlaces domains number old new = (place : ℕ) → place_of domains number ≡ Some place → (origin : Origin) → home_of domains origin ≡ Some place → HasMore 2 old new origin
