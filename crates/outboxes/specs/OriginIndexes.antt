-- Places that were noted for functions and hosts: functions by their bus (PCIe 4.0, 2.2.6.2), hosts by their domain.
use Rattle.std.specs.Prelude.{◌≡◌, ℕ, ◌==◌, ◌⊎◌, slice_index_or, Option, Some, None, if◌then◌else◌}
use Rattle.fab_types.specs.declared.origin.Origin.{Origin}
use Rattle.fab_types.specs.declared.origin.Origin.TheVariants.{Function, Host}
use Rattle.fab_types.specs.Id.{bus_of}
use Rattle.outboxes.specs.declared.origin_index.Noted.{Noted}
use Rattle.outboxes.specs.declared.origin_index.OriginIndex.{OriginIndex}

-- the place of a function, if it is the one that was noted
abbrev pub entry_for : Option Noted → ℕ → Option ℕ
entry_for None function = None
entry_for (Some noted) function = if noted.function == function then Some noted.place else None

-- the place that was noted for an origin, if one was
unfoldable pub noted_place : OriginIndex → Origin → Option ℕ
noted_place index (Function f) = entry_for (slice_index_or index.by_bus (bus_of f) None) f
noted_place index (Host n) = slice_index_or index.by_domain n None

-- once a place was noted for an origin: another one that is found so is that origin, or was found before
abbrev pub IsNoted : Origin → ℕ → Option ℕ → Origin → ℕ → Type 0
IsNoted origin place before other there = ((other ≡ origin) × (there ≡ place)) ⊎ (before ≡ Some there)
