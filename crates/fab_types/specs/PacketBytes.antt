-- The bytes of a packet, wherever they stand.
use Rattle.std.specs.Prelude.{ℕ, List}
use Rattle.std.specs.Arc.{arc_value}
use Rattle.fab_types.specs.declared.packet_bytes.Kept.{Kept}
use Rattle.fab_types.specs.declared.packet_bytes.Kept.TheVariants.{Short, Long, Shared}

abbrev pub kept_bytes : Kept → List ℕ
kept_bytes (Short copy) = copy.items
kept_bytes (Long bytes) = bytes.items
kept_bytes (Shared bytes) = (arc_value bytes).items
