-- Where the packets of a domain stand: the number of each, with its place.
use Rattle.std.specs.Prelude.{◌≡◌, ℕ, ◌==◌, Bool, true, List, ◌++◌, map}
use Rattle.std.specs.List.{flat_map, list_all, list_any}
use Rattle.std.specs.List.Sorted.{IsStrictlySortedBy}
use Rattle.std.specs.Ordering.{nat_cmp}
use Rattle.fab_types.specs.declared.place.Place.{Place}
use Rattle.fab_types.specs.declared.place.Place.TheVariants as place
use Rattle.frame_log.specs.Descriptor.{Descriptor}
use Rattle.domains.specs.Agents.{Outbox}
use Rattle.topology.specs.declared.links.Link.{Link}
use Rattle.packet_places.specs.Standing.{down, is_numbered, places_on, up}

-- a packet's number, and where it stands
abbrev pub PacketPlace : Type 0
PacketPlace = ℕ × Place

-- does the packet of this number of the domain stand at this place?
abbrev pub stands_at : (Place → List Descriptor) → ℕ → ℕ → Place → Bool
stands_at standing domain n place = list_any (is_numbered domain n) (standing place)

-- is the packet of this number among these?
abbrev pub is_named : {X : Type 0} → List (ℕ × X) → ℕ → Bool
is_named named n = list_any (λ one. one.0 == n) named

-- each packet of a domain that stands anywhere is named once, by rising numbers, with a place where it stands
pub record ArePacketPlaces (standing : Place → List Descriptor) (domain : ℕ) (named : List PacketPlace) : Type 0 where
  pub rising : IsStrictlySortedBy nat_cmp (map (λ one. one.0) named)
  pub there : list_all (λ one. stands_at standing domain one.0 one.1) named ≡ true
  pub all : (n : ℕ) (place : Place) → stands_at standing domain n place ≡ true → is_named named n ≡ true

-- ---- all places

-- of a link, in both directions
abbrev pub places_of_link : Link → List Place
places_of_link link = places_on (up link.lower) ++ places_on (down link.lower)

-- of a fabric
abbrev pub all_packet_places : List Link → List Outbox → List Place
all_packet_places links boxes = map place.Outbox (map (λ box. box.origin) boxes) ++ flat_map places_of_link links
