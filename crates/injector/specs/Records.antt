-- Records on their way to an injector.
use Rattle.std.specs.Prelude.{◌≡◌, ℕ, ◌++◌, List, Option, option_to_list}
use Rattle.rtrb.specs.Ring.{sent}
use Rattle.domain_state.specs.State.{Delivery}
use Rattle.domain.specs.Domains.{Delivers, DomainView}
use Rattle.injector.specs.declared.record_ring.RecordRing.{RecordRing}

-- what went into the ring, and what is held, oldest first
abbrev pub given_out : RecordRing → List Delivery
given_out ring = sent ring.producer ++ option_to_list ring.held

-- The delivery of this number, and the record that it makes, or none: the ring with what it holds grew by that
pub record Records (old : DomainView) (number : ℕ) (ring ring' : RecordRing) : Type 0 where
  pub given : Option Delivery
  pub delivers : Delivers old number given
  pub grows : given_out ring' ≡ given_out ring ++ option_to_list given
