-- Nothing of a domain was lost or doubled: of all that a fabric in threads left, its packets and its begins add up.
use Rattle.std.specs.Prelude.{◌≡◌, ℕ, ◌+◌, All, List, count_by}
use Rattle.domain.specs.Consumed.{times_waiting}
use Rattle.domain.specs.Domains.{DomainView}
use Rattle.domain_state.specs.State.{item_at}
use Rattle.frame_log.specs.Descriptor.{Descriptor}
use Rattle.thread_staff.specs.declared.remains.Remains.{Remains}
use Rattle.thread_totals.specs.Begins.{held_in, refused_in, rings_of, taken_in}
use Rattle.thread_totals.specs.Counts.{consumed_by, emitted_by, found_of}
use Rattle.thread_totals.specs.Named.{is_named}
use Rattle.thread_totals.specs.Standing.{is_numbered}
use Rattle.thread_totals.specs.declared.packet_name.PacketName.{PacketName}

-- of each number one packet was named if the domain has it in flight, and none if not
abbrev pub HaveOnce : List PacketName → DomainView → Type 0
HaveOnce names d = (n : ℕ) → count_by (is_named d.share.domain n) names ≡ times_waiting (item_at d.state.flight n)

-- The packets of the domain among these have the numbers that it has in flight, each once; so those that it made are those
-- that an entry of its journal ended, and those that were found. And each begin that a worker took for it is in its
-- journal, or was refused, or is held.
pub record IsBalanced (frames : List Descriptor) (remains : List Remains) (d : DomainView) : Type 0 where
  pub once : (n : ℕ) → count_by (is_numbered d.share.domain n) frames ≡ times_waiting (item_at d.state.flight n)
  pub packets : emitted_by d ≡ consumed_by d + found_of d frames
  pub begins : taken_in (rings_of d.share remains) ≡ d.state.counts.begins + refused_in (rings_of d.share remains) + held_in (rings_of d.share remains)

-- so it is of all of these
abbrev pub AreBalanced : List Descriptor → List Remains → List DomainView → Type 0
AreBalanced frames remains domains = All (IsBalanced frames remains) domains
