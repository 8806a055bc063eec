-- What a clause says of a row and of where an entry stands in it.
use Rattle.std.specs.Prelude.{◌≡◌, ℕ, ◌<◌, List, length}
use Rattle.boxcar.specs.Slot.{Named}
use Rattle.boxcar.specs.Table.{id_at}
use Rattle.frame_log.specs.declared.row.Placed.{Placed}

-- it is the place of this number among these
abbrev pub IsAt : List Named → ℕ → ℕ → Type 0
IsAt places index id = (index < length places) × (id ≡ id_at places index)

-- the entry stands in this row: its tier is there, its bucket in that, and its place in the bucket
pub record IsIn (row : List Named) (placed : Placed) : Type 0 where
  pub tier : IsAt row placed.place.tier placed.buckets.of
  pub bucket : IsAt placed.buckets.value.items placed.place.bucket placed.entries.of
  pub slot : IsAt placed.entries.value.items placed.place.slot placed.item.of
