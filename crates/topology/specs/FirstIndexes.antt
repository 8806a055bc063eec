-- Where the elements of each key begin in a list: of links by bus, of ports by bus and device (PCIe 4.0, 2.2.6.2).
use Rattle.std.specs.Prelude.{ℕ, ◌/◌, ◌==◌, List, map}
use Rattle.std.specs.List.{position_or_len, range_with_len}
use Rattle.fab_types.specs.Id.{bus_of}
use Rattle.topology.specs.declared.links.Link.{Link}
use Rattle.topology.specs.declared.places.PortPlace.{PortPlace}

-- the first of these keys that is this one, or their number
abbrev pub first_on : List ℕ → ℕ → ℕ
first_on keys key = position_or_len (λ other. other == key) keys

-- the same of each key below a bound
abbrev pub firsts_of : ℕ → List ℕ → List ℕ
firsts_of count keys = map (first_on keys) (range_with_len 0 count)

-- bus and device of an ID, as one number
abbrev pub slot_of : ℕ → ℕ
slot_of id = id / 8

abbrev pub link_buses : List Link → List ℕ
link_buses links = map (λ link. bus_of link.lower) links

abbrev pub place_slots : List PortPlace → List ℕ
place_slots places = map (λ place. slot_of place.id) places
