-- The packets that are noted, with their places.
use Rattle.std.proofs.Common.{◌≡◌, ℕ, ◌==◌, Bool, List, [], ◌∷◌, map, refl, sym, ap, ◌∙◌, subst}
use Rattle.std.specs.Prelude.{◌&&◌, ◌||◌}
use Rattle.std.specs.List.{list_all, list_any}
use Rattle.std.specs.List.Sorted.{IsStrictlySortedBy}
use Rattle.std.specs.Ordering.{nat_cmp}
use Rattle.fab_types.specs.declared.place.Place.{Place}
use Rattle.fab_types.specs.declared.place.Place.TheVariants.{Wire}
use Rattle.domains.specs.Agents.{Outbox}
use Rattle.link.specs.Channels.{Channel}
use Rattle.topology.specs.declared.links.Link.{Link}
use Rattle.packet_places.specs.Noted.{AreNoted, Note, with_place}
use Rattle.packet_places.specs.Standing.{is_numbered, standing_in, up}
use Rattle.packet_places.specs.PacketPlaces.{ArePacketPlaces, PacketPlace, all_packet_places, is_named, stands_at}
use Rattle.packet_places.proofs.Everywhere.{somewhere}

module _ (all : List Place) (other : Place) where
  numbers : (notes : List Note) → map (λ one. one.0) notes ≡ map (λ one. one.0) (map (with_place all other) notes)
  numbers [] = refl
  numbers (note ∷ notes) = ap (λ (ns : List ℕ). note.0 ∷ ns) (numbers notes)

  all_listed : (test : PacketPlace → Bool) (notes : List Note) → list_all test (map (with_place all other) notes) ≡ list_all (λ note. test (with_place all other note)) notes
  all_listed test [] = refl
  all_listed test (note ∷ notes) = ap (λ (b : Bool). test (with_place all other note) && b) (all_listed test notes)

  named_listed : (n : ℕ) (notes : List Note) → is_named (map (with_place all other) notes) n ≡ is_named notes n
  named_listed n [] = refl
  named_listed n (note ∷ notes) = ap (λ (b : Bool). (note.0 == n) || b) (named_listed n notes)

module _ (links : List Link) (channels : List (List Channel)) (boxes : List Outbox) (domain : ℕ) where
  pub listed : (all : List Place) (notes : List Note) (named : List PacketPlace) → all ≡ all_packet_places links boxes → IsStrictlySortedBy nat_cmp (map (λ one. one.0) notes) → AreNoted (standing_in links channels boxes) domain all all notes
      → ((other : Place) → named ≡ map (with_place all other) notes) → ArePacketPlaces (standing_in links channels boxes) domain named
  listed all notes named each rising noted is =
      let some : Place = Wire (up 0) in record {
        rising = subst (IsStrictlySortedBy nat_cmp) (numbers all some notes ∙ sym (ap (map (λ (one : PacketPlace). one.0)) (is some))) rising;
        there = ap (list_all (λ (one : PacketPlace). stands_at (standing_in links channels boxes) domain one.0 one.1)) (is some)
            ∙ (all_listed all some (λ one. stands_at (standing_in links channels boxes) domain one.0 one.1) notes ∙ noted.there some);
        all = λ n place h.
            ap (λ (ones : List PacketPlace). is_named ones n) (is some) ∙ (named_listed all some n notes ∙ (noted.named n
            ∙ (ap (list_any (stands_at (standing_in links channels boxes) domain n)) each ∙ somewhere links channels boxes (list_any (is_numbered domain n)) refl place h)));
      }
