-- What the host's worker has of the domains: of each its outbox there, and its ends of its injector's rings.
use Rattle.std.specs.Prelude.{◌≡◌, ℕ, Bool, List, map, slice_get, slice_set, Option, Some, IsSome}
use Rattle.std.specs.List.{position}
use Rattle.fab_types.specs.Origins.{same_origin}
use Rattle.fab_types.specs.declared.origin.Origin.{Origin}
use Rattle.fab_types.specs.declared.origin.Origin.TheVariants.{Function, Host}
use Rattle.frame_log.specs.Descriptor.{Descriptor}
use Rattle.rtrb.specs.Ring.{known_free, SameConsumer, SameProducer}
use Rattle.domain_state.specs.State.{Delivery}
use Rattle.injector.specs.Records.{given_out}
use Rattle.injector.specs.declared.begin_ring.BeginRing.{BeginRing}
use Rattle.injector.specs.declared.record_ring.RecordRing.{RecordRing}
use Rattle.outboxes.specs.Outboxes.{BoxView}
use Rattle.thread_workers.specs.Boxes.{with_places}
use Rattle.thread_workers.specs.Entering.{EntersEach}
use Rattle.thread_workers.specs.Serving.{ServesNext, has_served}
use Rattle.thread_workers.specs.declared.ends.serving.Begun.{Begun}
use Rattle.thread_workers.specs.declared.ends.serving.Begun.TheVariants.{Idle}
use Rattle.thread_workers.specs.declared.host.domain_host.DomainHost.{DomainHost}

-- the place of this domain's host: of the first whose outbox is that host's
unfoldable pub host_place : List DomainHost → ℕ → Option ℕ
host_place hosts domain = position (λ host. same_origin host.outbox.origin (Host domain)) hosts

-- this domain's host changed so, and no other
pub record HostChanges (domain : ℕ) (Change : DomainHost → DomainHost → Type 0) (hosts hosts' : List DomainHost) : Type 0 where
  pub place : ℕ
  pub found : host_place hosts domain ≡ Some place
  pub host : DomainHost
  pub was : slice_get hosts place ≡ Some host
  pub host' : DomainHost
  pub change : Change host host'
  pub is : hosts' ≡ slice_set hosts place host'

-- with so many places in its outbox for each class in all
abbrev pub host_with_places : ℕ → DomainHost → DomainHost
host_with_places places host = record { outbox = with_places places host.outbox; ends = host.ends }

-- they are as they were, but for how many places each outbox has
abbrev pub AreSameHosts : List DomainHost → List DomainHost → Type 0
AreSameHosts hosts hosts' = map (host_with_places 0) hosts' ≡ map (host_with_places 0) hosts

-- ---- what an outbox has goes to the link

-- of the one at a place packets went to the link, as is said; its rings and the others stay
pub record EntersAt (place : ℕ) (hosts hosts' : List DomainHost) (egress egress' : List Descriptor) (has_entered : Bool) : Type 0 where
  pub host : DomainHost
  pub was : slice_get hosts place ≡ Some host
  pub host' : DomainHost
  pub entered : EntersEach host.outbox host'.outbox egress egress' has_entered
  pub ends : host'.ends ≡ host.ends
  pub is : hosts' ≡ slice_set hosts place host'

-- ---- a begin is served

-- The next begin of a host was served, as is said, by the domain of the host whose outbox it has; a function's outbox is no
-- host's.
abbrev pub ServesFor : List ℕ → Origin → Begun → BoxView → BoxView → BeginRing → BeginRing → Type 0
ServesFor locks (Host domain) begun box box' ring ring' = ServesNext locks domain begun box box' ring ring'
ServesFor locks (Function function) begun box box' ring ring' = (begun ≡ Idle) × (box' ≡ box) × (ring' ≡ ring)

pub record ServesHost (locks : List ℕ) (begun : Begun) (host host' : DomainHost) : Type 0 where
  pub served : ServesFor locks host.outbox.origin begun host.outbox host'.outbox host.ends.begins host'.ends.begins
  pub same : SameConsumer host.ends.begins.consumer host'.ends.begins.consumer
  pub records_stay : host'.ends.records ≡ host.ends.records

-- of the one at a place; the others stay
pub record ServesAt (locks : List ℕ) (place : ℕ) (hosts hosts' : List DomainHost) (has_moved : Bool) : Type 0 where
  pub begun : Begun
  pub said : has_moved ≡ has_served begun
  pub host : DomainHost
  pub was : slice_get hosts place ≡ Some host
  pub host' : DomainHost
  pub served : ServesHost locks begun host host'
  pub is : hosts' ≡ slice_set hosts place host'

-- what stays of a host whose next begin is neither accepted nor refused
pub record Unserved : Type 0 where
  pub outbox : BoxView  -- but for how many places it has
  pub records_are : RecordRing
  pub accepted : ℕ
  pub refused : ℕ

abbrev pub unserved : DomainHost → Unserved
unserved host = record {
  outbox = with_places 0 host.outbox;
  records_are = host.ends.records;
  accepted = host.ends.begins.accepted;
  refused = host.ends.begins.refused;
}

-- ---- a record that is held goes out

-- what stays of a host then
pub record Flushed : Type 0 where
  pub outbox : BoxView
  pub begins : BeginRing
  pub given : List Delivery  -- what went into the ring of records, and what is held

abbrev pub flushed : DomainHost → Flushed
flushed host = record { outbox = host.outbox; begins = host.ends.begins; given = given_out host.ends.records }

-- a record is held after it only where this end knows of no place
pub record FlushesHost (host host' : DomainHost) : Type 0 where
  pub kept : flushed host' ≡ flushed host
  pub same : SameProducer host.ends.records.producer host'.ends.records.producer
  pub full : IsSome host'.ends.records.held → known_free host'.ends.records.producer ≡ 0

-- of the one at a place; the others stay
pub record FlushesAt (place : ℕ) (hosts hosts' : List DomainHost) : Type 0 where
  pub host : DomainHost
  pub was : slice_get hosts place ≡ Some host
  pub host' : DomainHost
  pub flushes : FlushesHost host host'
  pub is : hosts' ≡ slice_set hosts place host'
