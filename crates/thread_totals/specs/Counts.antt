-- What counts of a domain, of all that a fabric in threads left.
use Rattle.std.specs.Prelude.{ℕ, ◌-◌, ◌^◌, min, List, length, count_by, sum_by}
use Rattle.std.specs.List.{range_with_len}
use Rattle.domain.specs.Consumed.{times_consumed}
use Rattle.domain.specs.Domains.{DomainView}
use Rattle.frame_log.specs.Descriptor.{Descriptor}
use Rattle.thread_staff.specs.declared.remains.Remains.{Remains}
use Rattle.thread_totals.specs.Begins.{held_in, refused_in, rings_of, taken_in}
use Rattle.thread_totals.specs.Standing.{is_of}
use Rattle.thread_totals.specs.declared.ring_count.RingCount.{RingCount}
use Rattle.thread_totals.specs.declared.totals.Totals.{Totals}

-- a count stops at what 64 bits hold
abbrev pub capped : ℕ → ℕ
capped n = min n (2 ^ 64 - 1)

-- how many packets the domain made: its numbers are 0, 1, 2 and so on
abbrev pub emitted_by : DomainView → ℕ
emitted_by d = length d.state.flight

-- how many entries of its journal ended a packet that it made
abbrev pub consumed_by : DomainView → ℕ
consumed_by d = sum_by (λ n. times_consumed n d.journal) (range_with_len 0 (emitted_by d))

-- how many of these packets it made
abbrev pub found_of : DomainView → List Descriptor → ℕ
found_of d frames = count_by (is_of d.share.domain) frames

-- with the counts of its rings of begins
abbrev pub totals_with : List RingCount → List Descriptor → DomainView → Totals
totals_with rings frames d = record {
  emitted = emitted_by d;
  consumed = consumed_by d;
  found = found_of d frames;
  taken = capped (taken_in rings);
  begins = d.state.counts.begins;
  refused = capped (refused_in rings);
  held = held_in rings;
}

-- where these packets stand, and these workers were left
abbrev pub totals_of : List Descriptor → List Remains → DomainView → Totals
totals_of frames remains d = totals_with (rings_of d.share remains) frames d
