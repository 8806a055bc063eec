-- The host takes the eligible packet of a class out of its link, which it doesn't relay: what waits there, the hosts and
-- the strays before and after.
use Rattle.std.specs.Prelude.{◌≡◌, ◌⊎◌, ℕ, List, [], ◌∷◌, ◌++◌, Some, None}
use Rattle.fab_types.specs.declared.place.Place.{Place}
use Rattle.fab_types.specs.declared.place.Place.TheVariants.{Ingress}
use Rattle.fab_types.specs.declared.place.Way.TheVariants.{Up}
use Rattle.frame_log.specs.Descriptor.{Descriptor}
use Rattle.lane.specs.Lanes.{Class, eligible}
use Rattle.thread_workers.specs.Ends.{EndsOwn, HasNoAlien, HasNoCase, TakesAlien}
use Rattle.thread_workers.specs.Hosts.{AreSameHosts, HostChanges, host_place}
use Rattle.received.specs.Received.{received_at_host}
use Rattle.thread_workers.specs.declared.host.domain_host.DomainHost.{DomainHost}

-- where it takes them: up the link of the top switch
abbrev pub at_host : Place
at_host = Ingress (record { lower = 0x0100; way = Up })

-- its home has an entry of it, and what follows waits in the home's host's outbox, or goes out as a record there
abbrev pub EndsOwnAt : Descriptor → DomainHost → DomainHost → Type 0
EndsOwnAt frame host host' = EndsOwn (received_at_host frame) frame host.outbox host'.outbox host.ends.records host'.ends.records × (host'.ends.begins ≡ host.ends.begins)

-- the domain of a number has an entry of it, and what follows waits in its host's outbox
abbrev pub TakesAlienAt : ℕ → Descriptor → DomainHost → DomainHost → Type 0
TakesAlienAt number frame host host' = TakesAlien number at_host frame host.outbox host'.outbox × (host'.ends ≡ host.ends)

-- its home has an entry of it
pub record EndsAtHome (class : Class) (waiting waiting' : List Descriptor) (hosts hosts' : List DomainHost) (strays strays' : List Descriptor) : Type 0 where
  pub frame : Descriptor
  pub taken : eligible class waiting ≡ Some (frame, waiting')
  pub ended : HostChanges frame.domain (EndsOwnAt frame) hosts hosts'
  pub others : strays' ≡ strays

-- the home of a packet has no host here, or no case for the packet
abbrev pub IsForeign : List ℕ → List DomainHost → Descriptor → Type 0
IsForeign locks hosts frame = (host_place hosts frame.domain ≡ None) ⊎ HasNoCase locks (received_at_host frame) frame

-- the receiver of a packet has no host here, or no case for the packet
abbrev pub IsUnreceived : List ℕ → ℕ → List DomainHost → Descriptor → Type 0
IsUnreceived locks receiver hosts frame = (host_place hosts receiver ≡ None) ⊎ HasNoAlien locks receiver at_host frame

-- Its home has no case for it, and the receiver has an entry of it. Between the two outboxes may have got places.
pub record EndsAsAlien (locks : List ℕ) (receiver_of : Descriptor → ℕ) (class : Class) (waiting waiting' : List Descriptor) (hosts hosts' : List DomainHost) (strays strays' : List Descriptor) : Type 0 where
  pub frame : Descriptor
  pub taken : eligible class waiting ≡ Some (frame, waiting')
  pub foreign : IsForeign locks hosts frame
  pub grown : List DomainHost
  pub same : AreSameHosts hosts grown
  pub ended : HostChanges (receiver_of frame) (TakesAlienAt (receiver_of frame) frame) grown hosts'
  pub others : strays' ≡ strays

-- nobody has a case for it, and it stands behind the other strays
pub record EndsAsStray (locks : List ℕ) (receiver_of : Descriptor → ℕ) (class : Class) (waiting waiting' : List Descriptor) (hosts hosts' : List DomainHost) (strays strays' : List Descriptor) : Type 0 where
  pub frame : Descriptor
  pub taken : eligible class waiting ≡ Some (frame, waiting')
  pub foreign : IsForeign locks hosts frame
  pub grown : List DomainHost
  pub same : AreSameHosts hosts grown
  pub unreceived : IsUnreceived locks (receiver_of frame) grown frame
  pub rest : AreSameHosts grown hosts'
  pub kept : strays' ≡ strays ++ frame ∷ []

-- nothing moved; outboxes may have more places
pub record StaysThere (waiting waiting' : List Descriptor) (hosts hosts' : List DomainHost) (strays strays' : List Descriptor) : Type 0 where
  pub queue : waiting' ≡ waiting
  pub hosts_stay : AreSameHosts hosts hosts'
  pub others : strays' ≡ strays
