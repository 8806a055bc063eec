-- The `map` lines of a layout, by the bus of their requester and by their frame. This project's own.
use Rattle.std.specs.Prelude.{◌≡◌, ℕ, ◌<◌, ◌==◌, Bool, List, length, filter, Option, Some, None, option_map, slice_index_or, Vec, if◌then◌else◌}
use Rattle.std.specs.List.{find}
use Rattle.fab_types.specs.Id.{bus_of}
use Rattle.platform.specs.declared.parts.MapTarget.{MapTarget}
use Rattle.platform.specs.declared.parts.MapTarget.TheVariants.{Frame, Peer}
use Rattle.platform.specs.declared.parts.Mapping.{Mapping}
use Rattle.layout.specs.Rules.{is_mapping_of}
use Rattle.layout.specs.declared.map_lines.MapLines.TheInside.{Inside}

abbrev pub is_from_bus : ℕ → Mapping → Bool
is_from_bus bus line = bus_of line.requester == bus

-- the requester of the first line that maps this frame
abbrev pub first_of_frame : List Mapping → ℕ → Option ℕ
first_of_frame lines frame = option_map (λ line. line.requester) (find (λ line. is_mapping_of frame line.target) lines)

-- the same with one line more
abbrev pub noted : Option ℕ → ℕ → Mapping → Option ℕ
noted (Some requester) frame line = Some requester
noted None frame line = if is_mapping_of frame line.target then Some line.requester else None

-- a frame that is mapped has a place
abbrev pub HasPlace : List (Option ℕ) → MapTarget → Type 0
HasPlace frames (Frame frame) = frame < length frames
HasPlace frames (Peer peer) = Unit {0}

abbrev pub ByBus : {Z : Type 0} → List Mapping → List (Vec Mapping Z) → Type 0
ByBus {Z} lines buses = (bus : ℕ) (d : Vec Mapping Z) → bus < 256 → (slice_index_or buses bus d).items ≡ filter (is_from_bus bus) lines

pub record AreIndexed (m : Inside) : Type 0 where
  pub all : length m.buses.items ≡ 256
  pub buses : ByBus m.lines.items m.buses.items
  pub frames : (frame : ℕ) → slice_index_or m.frames.items frame None ≡ first_of_frame m.lines.items frame
