use Rattle.std.proofs.Common.{◌≡◌, ◌++◌, map, take}
use Rattle.fab_types.specs.declared.place.Place.TheVariants as place
use Rattle.packet_places.proofs.all_packet_places.add_outboxes.Given as goal

abbrev pub invariant-loop-origin : goal.invariant-loop-origin
invariant-loop-origin l = l.places.items ≡ l.initial.places.items ++ map place.Outbox (take l.origin-index l.origins)
