-- The packets on the way from an outbox to where the way ends, in their order, those nearest to its end first.
use Rattle.std.specs.Prelude.{◌≡◌, ◌⊎◌, ℕ, Bool, true, false, ◌&&◌, ◌||◌, not, List, [], ◌∷◌, ◌++◌, All}
use Rattle.std.specs.List.{flat_map}
use Rattle.fab_types.specs.declared.origin.Origin.TheVariants as origin
use Rattle.fab_types.specs.declared.place.Place.{Place}
use Rattle.fab_types.specs.declared.place.Place.TheVariants as place
use Rattle.frame_log.specs.Descriptor.{Descriptor}
pub use Rattle.packet_places.specs.Standing.{channel_in, down, egress_of, ingress_of, places_on, standing_in, up, wire_of}
use Rattle.fabric_core.specs.World.{World}

-- ---- where packets stand

-- the packets at a place, oldest first
abbrev pub standing_at : World → Place → List Descriptor
standing_at w place = standing_in w.tree.links w.channels w.agents.outboxes place

-- ---- the places of a way

-- of the links from a function's own on, up
abbrev pub places_up : List ℕ → List Place
places_up [] = []
places_up (link ∷ links) = places_up links ++ places_on (up link)

-- and down
abbrev pub places_down : List ℕ → List Place
places_down [] = []
places_down (link ∷ links) = places_on (down link) ++ places_down links

-- from the host back to the outbox of a function whose way these links are
abbrev pub from_function : ℕ → List ℕ → List Place
from_function function links = places_up links ++ place.Outbox (origin.Function function) ∷ []

-- from the function below the peer of the last link's port back to the outbox of a function that has these links up to it
abbrev pub across : ℕ → ℕ → List ℕ → List Place
across peer function links = places_on (down peer) ++ from_function function links

-- from a function whose way these links are back to the outbox of a domain's host
abbrev pub from_host : ℕ → List ℕ → List Place
from_host domain links = places_down links ++ place.Outbox (origin.Host domain) ∷ []

-- ---- their order

-- does one packet of the first kind stand among these, with none of the second kind in front of it?
abbrev pub is_ahead : (Descriptor → Bool) → (Descriptor → Bool) → List Descriptor → Bool
is_ahead first second [] = false
is_ahead first second (x ∷ xs) = first x || (not (second x) && is_ahead first second xs)

-- ---- two kinds of packets on a way

abbrev pub In : Place → List Place → Type 0
In place [] = ⊥
In place (x ∷ xs) = (place ≡ x) ⊎ In place xs

-- no packet at all
abbrev pub never : Descriptor → Bool
never x = false

-- no packet of this kind stands anywhere but at these places
abbrev pub StandOn : (Place → List Descriptor) → List Place → (Descriptor → Bool) → Type 0
StandOn standing places is_one = (place : Place) → In place places ⊎ All (λ (x : Descriptor). is_one x ≡ false) (standing place)

-- of these places alone, and with the first kind in front
pub record InOrderOnWay (standing : Place → List Descriptor) (places : List Place) (first second : Descriptor → Bool) : Type 0 where
  pub ahead : is_ahead first second (flat_map standing places) ≡ true
  pub first_on : StandOn standing places first
  pub second_on : StandOn standing places second
