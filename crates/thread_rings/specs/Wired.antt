-- Which ends a worker has, by the numbers of their rings in a table.
use Rattle.std.specs.Prelude.{ℕ, ◌+◌, ◌==◌, ◌<◌, replicate, slice_set, slice_index_or, List, [], ◌∷◌, ◌++◌, map, All}
use Rattle.std.specs.List.{filter}
use Rattle.thread_rings.specs.Names.{RingName, out_name, in_name}
use Rattle.thread_rings.specs.declared.ends.Ends.{Ends}
use Rattle.thread_rings.specs.declared.in_end.InEnd.{InEnd}
use Rattle.thread_rings.specs.declared.out_end.OutEnd.{OutEnd}
use Rattle.thread_rings.specs.declared.wire.Wire.{Wire}
use Rattle.thread_rings.specs.declared.laid.Laid.{Laid}

-- an end: the number of its ring, and which ring that is
abbrev pub Tag : Type 0
Tag = ℕ × RingName

pub record Tags : Type 0 where
  pub outs : List Tag
  pub ins : List Tag

abbrev pub no_tags : Tags
no_tags = record { outs = []; ins = [] }

abbrev pub with_out : Tags → Tag → Tags
with_out tags tag = record { outs = tags.outs ++ tag ∷ []; ins = tags.ins }

abbrev pub with_in : Tags → Tag → Tags
with_in tags tag = record { outs = tags.outs; ins = tags.ins ++ tag ∷ [] }

module _ {T : Type 0} where
  abbrev pub out_tag : OutEnd T → Tag
  out_tag e = (e.ring, out_name e.producer)

  abbrev pub in_tag : InEnd T → Tag
  in_tag e = (e.ring, in_name e.consumer)

  abbrev pub tags_of : Ends T → Tags
  tags_of e = record { outs = map out_tag e.outs.items; ins = map in_tag e.ins.items }

-- one more end for a worker
abbrev pub out_given : List Tags → ℕ → Tag → List Tags
out_given workers i tag = slice_set workers i (with_out (slice_index_or workers i no_tags) tag)

abbrev pub in_given : List Tags → ℕ → Tag → List Tags
in_given workers i tag = slice_set workers i (with_in (slice_index_or workers i no_tags) tag)

-- The ends of all rings, dealt out: of the ring of each number, its first end to the worker that its wire is from, and its
-- other end to the one that the wire leads to.
abbrev pub given : List Tags → ℕ → Wire × RingName → List Tags
given workers n r = in_given (out_given workers r.0.from (n, r.1)) r.0.to (n, r.1)

abbrev pub dealt_from : ℕ → List Tags → List (Wire × RingName) → List Tags
dealt_from n workers [] = workers
dealt_from n workers (r ∷ rs) = dealt_from (n + 1) (given workers n r) rs

-- what so many workers are dealt
abbrev pub dealt : ℕ → List (Wire × RingName) → List Tags
dealt count table = dealt_from 0 (replicate count no_tags) table

-- a row of a table: its number, its wire, and which ring was laid for it
abbrev pub Row : Type 0
Row = ℕ × (Wire × RingName)

abbrev pub tag_of : Row → Tag
tag_of row = (row.0, row.1.1)

-- the rows of a table, each with its number
abbrev pub numbered_from : ℕ → List (Wire × RingName) → List Row
numbered_from n [] = []
numbered_from n (r ∷ rs) = (n, r) ∷ numbered_from (n + 1) rs

abbrev pub numbered : List (Wire × RingName) → List Row
numbered table = numbered_from 0 table

-- the rows whose rings lead from a worker, and those whose rings lead to it
abbrev pub rows_from : ℕ → List Row → List Row
rows_from worker rows = filter (λ row. row.1.0.from == worker) rows

abbrev pub rows_to : ℕ → List Row → List Row
rows_to worker rows = filter (λ row. row.1.0.to == worker) rows

-- each wire joins two of so many workers
abbrev pub AreWithin : ℕ → List Wire → Type 0
AreWithin count wires = All (λ w. (w.from < count) × (w.to < count)) wires

module _ {T : Type 0} where
  abbrev pub laid_of : Laid T → Wire × RingName
  laid_of l = (l.wire, out_name l.ring.out)

  -- the table of all rings, as they were made
  abbrev pub table_of : List (Laid T) → List (Wire × RingName)
  table_of rings = map laid_of rings
