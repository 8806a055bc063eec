-- The begins that came for a domain from outside, by the rings that its functions and its host were served from.
use Rattle.std.specs.Prelude.{◌≡◌, ℕ, ◌+◌, List, [], ◌∷◌, length, is_some, if◌then◌else◌, count_by, sum_by}
use Rattle.std.specs.List.{flat_map}
use Rattle.rtrb.specs.Ring.{received}
use Rattle.fab_types.specs.Origins.{same_origin}
use Rattle.fab_types.specs.declared.origin.Origin.TheVariants.{Host}
use Rattle.injector.specs.declared.begin_ring.BeginRing.{BeginRing}
use Rattle.platform.specs.Owners.{is_own_function}
use Rattle.platform.specs.Share.{Share}
use Rattle.thread_workers.specs.declared.host.domain_host.DomainHost.{DomainHost}
use Rattle.thread_staff.specs.declared.remains.Parts.{Parts}
use Rattle.thread_staff.specs.declared.remains.Parts.TheVariants as parts
use Rattle.thread_staff.specs.declared.remains.Remains.{Remains}
use Rattle.thread_totals.specs.declared.ring_count.RingCount.{RingCount}

-- how many begins a worker took out of its ring, how many of these its domain accepted and refused, and whether it still
-- holds one
abbrev pub ring_count : BeginRing → RingCount
ring_count ring = record { taken = length (received ring.consumer); accepted = ring.accepted; refused = ring.refused; is_held = is_some ring.held }

-- ---- the rings of a domain

abbrev pub host_ring : ℕ → DomainHost → List RingCount
host_ring domain host = if same_origin host.outbox.origin (Host domain) then ring_count host.ends.begins ∷ [] else []

abbrev pub rings_in : Share → Parts → List RingCount
rings_in share (parts.Port left) = []
rings_in share (parts.Function left) = if is_own_function share left.function then ring_count left.begins ∷ [] else []
rings_in share (parts.Host left) = flat_map (host_ring share.domain) left.hosts.items

abbrev pub rings_by : Share → Remains → List RingCount
rings_by share remains = rings_in share remains.parts

-- those of its functions, and of its host
abbrev pub rings_of : Share → List Remains → List RingCount
rings_of share remains = flat_map (rings_by share) remains

-- ---- all of them

abbrev pub taken_in : List RingCount → ℕ
taken_in rings = sum_by (λ ring. ring.taken) rings

abbrev pub accepted_in : List RingCount → ℕ
accepted_in rings = sum_by (λ ring. ring.accepted) rings

abbrev pub refused_in : List RingCount → ℕ
refused_in rings = sum_by (λ ring. ring.refused) rings

abbrev pub held_in : List RingCount → ℕ
held_in rings = count_by (λ ring. ring.is_held) rings

-- each begin that was taken was accepted or refused, or is held
abbrev pub AddUp : List RingCount → Type 0
AddUp rings = taken_in rings ≡ accepted_in rings + refused_in rings + held_in rings
