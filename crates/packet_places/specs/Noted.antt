-- How the packets of a domain are found: each is noted by its number, with that of its place among all places.
use Rattle.std.specs.Prelude.{◌≡◌, ℕ, ◌==◌, nat_lt, Bool, true, ◌||◌, not, List, length, slice_index_or}
use Rattle.std.specs.List.{list_all, list_any}
use Rattle.fab_types.specs.declared.place.Place.{Place}
use Rattle.frame_log.specs.Descriptor.{Descriptor}
use Rattle.packet_places.specs.Standing.{is_numbered}
use Rattle.packet_places.specs.PacketPlaces.{PacketPlace, is_named, stands_at}

-- a packet's number, and that of its place
abbrev pub Note : Type 0
Note = ℕ × ℕ

abbrev pub is_below : List Place → Note → Bool
is_below places note = nat_lt note.1 (length places)

-- the place in place of its number
abbrev pub with_place : List Place → Place → Note → PacketPlace
with_place places other note = (note.0, slice_index_or places note.1 other)

-- of packets at a place those that a domain made are noted, beside or in place of what was noted before
pub record Notes (domain place : ℕ) (frames : List Descriptor) (old new : List Note) : Type 0 where
  pub there : (test : Note → Bool) → list_all test old ≡ true → list_all (λ frame. not (frame.domain == domain) || test (frame.number, place)) frames ≡ true → list_all test new ≡ true
  pub named : (n : ℕ) → is_named new n ≡ (is_named old n || list_any (is_numbered domain n) frames)

-- the packets of a domain that stand at the first of all places are noted, each with one of these where it stands
pub record AreNoted (standing : Place → List Descriptor) (domain : ℕ) (all firsts : List Place) (notes : List Note) : Type 0 where
  pub below : list_all (is_below all) notes ≡ true
  pub there : (other : Place) → list_all (λ note. stands_at standing domain note.0 (slice_index_or all note.1 other)) notes ≡ true
  pub named : (n : ℕ) → is_named notes n ≡ list_any (stands_at standing domain n) firsts
