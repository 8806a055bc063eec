-- The domains of a fabric that a script drove.
use Rattle.std.specs.Prelude.{◌≡◌, ℕ, Some}
use Rattle.platform.specs.Platform.{Platform}
use Rattle.platform.specs.Share.{Share}
use Rattle.layout.specs.Views.{share_of_owner}
use Rattle.domain.specs.Domains.{DomainView}
use Rattle.domains.specs.Domains.{domain_at, place_of}
use Rattle.fabric_core.specs.World.{World}

-- the fabric has the domain that this share is of, and that has this share
pub record HasDomainOf (w : World) (share : Share) : Type 0 where
  pub domain : DomainView
  pub there : domain_at w.agents.domains (place_of w.agents.domains share.domain) ≡ Some domain
  pub share_is : domain.share ≡ share

-- the platform gives this share to the domain of some number, which owns a port
abbrev pub IsGiven : Platform → Share → Type 0
IsGiven platform share = (number : ℕ) × (share_of_owner platform number ≡ Some share)

-- the fabric has every domain that owns a port of the platform
abbrev pub HasOwners : Platform → World → Type 0
HasOwners platform w = (share : Share) → IsGiven platform share → HasDomainOf w share
