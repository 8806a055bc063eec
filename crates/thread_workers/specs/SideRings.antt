-- What the ends of a worker know of their first rings.
use Rattle.std.specs.Prelude.{◌<◌, [], map, Option, slice_get, slice_index_or}
use Rattle.rtrb.specs.Ring.{known_items}
use Rattle.thread_rings.specs.Moved.{places_of}
use Rattle.thread_rings.specs.declared.ends.Ends.{Ends}

module _ {T : Type 0} where
  -- there is an end to put into, and it knows of a free place
  abbrev pub HasPlace : Ends T → Type 0
  HasPlace ends = 0 < slice_index_or (places_of ends) 0 0

  -- the oldest item of which the end to take from knows, if there are an end and an item
  abbrev pub oldest : Ends T → Option T
  oldest ends = slice_get (slice_index_or (map (λ e. known_items e.consumer) ends.ins.items) 0 []) 0
