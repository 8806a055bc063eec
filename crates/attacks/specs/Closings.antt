-- Reads in a domain's name that are to close one of its own.
use Rattle.std.specs.Prelude.{ℕ, ◌==◌, ◌&&◌, Bool, true, false, not, List, [], ◌∷◌, Option, Some, None, map, if◌then◌else◌}
use Rattle.std.specs.List.{find, flat_map, list_any}
use Rattle.platform.specs.declared.parts.Mapping.{Mapping}
use Rattle.platform.specs.declared.parts.MapTarget.{MapTarget}
use Rattle.platform.specs.declared.parts.MapTarget.TheVariants.{Frame, Peer}
use Rattle.attacks.specs.declared.attack.Attack.{Attack}
use Rattle.attacks.specs.declared.attack.Harm.TheVariants.{TagClosed}

-- By how many sweeps the read is ahead of the domain's own. That one is open for three sweeps or more, and the completion of
-- the other comes in the fourth or later
abbrev pub leads : List ℕ
leads = 3 ∷ 6 ∷ 9 ∷ 12 ∷ 15 ∷ []

abbrev pub is_frame : MapTarget → Bool
is_frame (Frame frame) = true
is_frame (Peer function) = false

-- it is mapped to a frame, which in a fresh fabric holds zeros
abbrev pub holds_zeros : Mapping → Bool
holds_zeros line = is_frame line.target

abbrev pub is_zeros : List Mapping → ℕ → ℕ → Bool
is_zeros maps requester page = list_any (λ line. (line.requester == requester) && (line.page == page) && holds_zeros line) maps

-- a read of this page may be answered otherwise than one by the mapping
abbrev pub differs : List Mapping → Mapping → ℕ → Bool
differs maps own page = not (own.page == page) && not (holds_zeros own && is_zeros maps own.requester page)

-- the first mapping by which the requester may read
abbrev pub own_line : List Mapping → ℕ → Option Mapping
own_line maps requester = find (λ line. (line.requester == requester) && line.rights.read) maps

-- the same read, so many sweeps ahead of one by the mapping
abbrev pub closing : Attack → Mapping → ℕ → Attack
closing attack own sweeps = record {
  function = attack.function;
  harm = TagClosed (record { function = own.requester; page = own.page; sweeps = sweeps });
  port = attack.port;
  control = attack.control;
  access = attack.access;
  is_translated = attack.is_translated;
  requester = attack.requester;
  page = attack.page;
}

abbrev pub closings_beside : List Mapping → Attack → Option Mapping → List Attack
closings_beside maps attack None = []
closings_beside maps attack (Some own) = if differs maps own attack.page then map (closing attack own) leads else []

abbrev pub closings_of : List Mapping → Attack → List Attack
closings_of maps attack = closings_beside maps attack (own_line maps attack.requester)

-- each of these reads, ahead of one by the first mapping by which its requester may read
abbrev pub closings : List Mapping → List Attack → List Attack
closings maps reads = flat_map (closings_of maps) reads
