-- Rings that came back.
use Rattle.std.specs.Prelude.{List, [], ◌∷◌}
use Rattle.rtrb.specs.Ring.{sent, received}
use Rattle.thread_rings.specs.Moved.{Flow, put_back, taken_back}
use Rattle.thread_rings.specs.Names.{out_name}
use Rattle.thread_rings.specs.Wired.{Row}
use Rattle.thread_rings.specs.declared.ring_tally.RingTally.{RingTally}

module _ {T : Type 0} where
  -- the row of the table whose ring this is
  abbrev pub row_of : RingTally T → Row
  row_of tally = (tally.ring, (tally.wire, out_name tally.out))

  -- What the ring's tally says of its two workers: by one end more, the one put in what was put; by one end more, the other took
  -- what was taken.
  abbrev pub with_tally : List (Flow T) → RingTally T → List (Flow T)
  with_tally workers tally = taken_back (put_back workers tally.wire.from (sent tally.out)) tally.wire.to (received tally.taker.value)

  -- what these tallies say, beyond what is known of the workers already
  abbrev pub all_tallied : List (Flow T) → List (RingTally T) → List (Flow T)
  all_tallied workers [] = workers
  all_tallied workers (tally ∷ rings) = all_tallied (with_tally workers tally) rings
