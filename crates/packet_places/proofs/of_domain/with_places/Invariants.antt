use Rattle.std.proofs.Common.{◌≡◌, ◌++◌, map, true}
use Rattle.std.specs.List.{list_all}
use Rattle.fab_types.specs.declared.place.Place.{Place}
use Rattle.packet_places.specs.Noted.{is_below, with_place}
use Rattle.packet_places.proofs.of_domain.with_places.Given as goal

abbrev pub invariant-loop-number : goal.invariant-loop-number
invariant-loop-number l = record {
  below : list_all (is_below l.places) l.number-iterator ≡ true;
  named : (other : Place) → l.named.items ++ map (with_place l.places other) l.number-iterator ≡ map (with_place l.places other) l.found.entries;
}
