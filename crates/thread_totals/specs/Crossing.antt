-- The numbers that a domain has in flight are crossed off, one for each packet.
use Rattle.std.specs.Prelude.{◌≡◌, ℕ, ◌+◌, Bool, false, if◌then◌else◌, List, count_by, slice_index_or}
use Rattle.thread_totals.specs.Named.{is_made_by, is_named}
use Rattle.thread_totals.specs.declared.packet_name.PacketName.{PacketName}

-- how often a number is still to be crossed off: once or never
abbrev pub times_left : List Bool → ℕ → ℕ
times_left flying n = if slice_index_or flying n false then 1 else 0

abbrev pub all_left : List Bool → ℕ
all_left flying = count_by (λ is_flying. is_flying) flying

-- of each number as many packets of the domain were among these as it was crossed off, and of all numbers too
pub record AreCrossedOff (domain : ℕ) (names : List PacketName) (old new : List Bool) : Type 0 where
  pub each : (n : ℕ) → count_by (is_named domain n) names + times_left new n ≡ times_left old n
  pub all : count_by (is_made_by domain) names + all_left new ≡ all_left old
