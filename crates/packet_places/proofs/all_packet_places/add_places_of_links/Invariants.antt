use Rattle.std.proofs.Common.{◌≡◌, ◌++◌, take}
use Rattle.std.specs.List.{flat_map}
use Rattle.packet_places.specs.PacketPlaces.{places_of_link}
use Rattle.packet_places.proofs.all_packet_places.add_places_of_links.Given as goal

abbrev pub invariant-loop-link : goal.invariant-loop-link
invariant-loop-link l = l.places.items ≡ l.initial.places.items ++ flat_map places_of_link (take l.link-index l.links)
