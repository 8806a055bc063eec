-- How a packet ends that was taken at an end of the tree, out of a link: at a function or at the host. What is said of
-- a domain is said of some state of it, since other threads use it too.
use Rattle.std.specs.Prelude.{◌≡◌, ℕ, List, Option, Some, None, IsSome, ◌⊎◌}
use Rattle.fab_types.specs.declared.place.Place.{Place}
use Rattle.frame_log.specs.Descriptor.{Descriptor}
use Rattle.rtrb.specs.Ring.{known_free, SameProducer}
use Rattle.domain.specs.Domains.{DomainView, Makes}
use Rattle.domain.specs.Machine.{replay}
use Rattle.domain.specs.declared.entry.Entry.TheVariants.{Alien, Carry, Deliver}
use Rattle.thread_domains.specs.Locks.{AbsentThere, FlyingThere, IllegalThere, LegalThere, MadeThere, WantedThere, place_of}
use Rattle.outboxes.specs.Outboxes.{BoxView}
use Rattle.injector.specs.Records.{Records}
use Rattle.injector.specs.declared.record_ring.RecordRing.{RecordRing}
use Rattle.thread_workers.specs.Boxes.{IsCramped, with_answer, with_places}
use Rattle.received.specs.declared.received.Received.{Received}

-- ---- an entry of its home

-- a request was carried, and what followed waits behind the others in the outbox
pub record Carries (frame : Descriptor) (box box' : BoxView) : Type 0 where
  pub answer : Option Descriptor
  pub made : MadeThere frame.domain (Carry frame.number) answer
  pub places : ℕ
  pub put : box' ≡ with_answer answer (with_places places box)

-- A completion was delivered. The ring of records, with what it holds, grew by the record that this delivery makes, or by
-- nothing where it makes none; a record is held only where this end knows of no place.
pub record SettledThere (frame : Descriptor) (ring ring' : RecordRing) : Type 0 where
  pub before : DomainView
  pub after : DomainView
  pub home : frame.domain ≡ before.share.domain
  pub replays : replay before.share before.journal ≡ Some before.state
  pub makes : Makes before (Deliver frame.number) after None
  pub grows : Records before frame.number ring ring'
  pub same : SameProducer ring.producer ring'.producer
  pub full : IsSome ring'.held → known_free ring'.producer ≡ 0

-- either, by what was received
abbrev pub EndsOwn : Received → Descriptor → BoxView → BoxView → RecordRing → RecordRing → Type 0
EndsOwn Received.Request frame box box' ring ring' = Carries frame box box' × (ring' ≡ ring)
EndsOwn Received.Completion frame box box' ring ring' = SettledThere frame ring ring' × (box' ≡ box)
EndsOwn Received.Relayed frame box box' ring ring' = ⊥
EndsOwn Received.Unknown frame box box' ring ring' = ⊥

-- Its home has no case for it: what was received asks for none, or such an entry was illegal there. Nothing is said of a home
-- without a lock.
abbrev pub HasNoCase : List ℕ → Received → Descriptor → Type 0
HasNoCase locks Received.Request frame = IsSome (place_of locks frame.domain) → IllegalThere frame.domain (Carry frame.number)
HasNoCase locks Received.Completion frame = IsSome (place_of locks frame.domain) → IllegalThere frame.domain (Deliver frame.number)
HasNoCase locks Received.Relayed frame = Unit
HasNoCase locks Received.Unknown frame = Unit

-- It has to wait: memory is wanted for what follows from it, or for places in the outbox; or a record is held.
abbrev pub HasToWait : Received → Descriptor → BoxView → RecordRing → Type 0
HasToWait Received.Request frame box ring = WantedThere frame.domain (Carry frame.number) ⊎ IsCramped box
HasToWait Received.Completion frame box ring = IsSome ring.held
HasToWait Received.Relayed frame box ring = ⊥
HasToWait Received.Unknown frame box ring = ⊥

-- ---- an entry of the domain of that place, in a layout that isn't guarded

-- that domain has an entry of the bytes that were in flight at its home, and what followed waits in the outbox
pub record TakesAlien (number : ℕ) (place : Place) (frame : Descriptor) (box box' : BoxView) : Type 0 where
  pub bytes : List ℕ
  pub flying : FlyingThere frame bytes
  pub answer : Option Descriptor
  pub made : MadeThere number (Alien place frame.head.parties bytes) answer
  pub places : ℕ
  pub put : box' ≡ with_answer answer (with_places places box)

-- nor had that domain a case for the bytes that were in flight
pub record IsForNobody (locks : List ℕ) (number : ℕ) (place : Place) (frame : Descriptor) : Type 0 where
  pub bytes : List ℕ
  pub flying : FlyingThere frame bytes
  pub illegal : IsSome (place_of locks number) → IllegalThere number (Alien place frame.head.parties bytes)

-- or none were in flight
abbrev pub HasNoAlien : List ℕ → ℕ → Place → Descriptor → Type 0
HasNoAlien locks number place frame = (IsSome (place_of locks frame.domain) → AbsentThere frame) ⊎ IsForNobody locks number place frame

-- that domain had a case for the bytes that were in flight
pub record IsForIt (number : ℕ) (place : Place) (frame : Descriptor) : Type 0 where
  pub bytes : List ℕ
  pub flying : FlyingThere frame bytes
  pub legal : LegalThere number (Alien place frame.head.parties bytes)

-- memory is wanted: for that entry, or for places in the outbox
abbrev pub AlienWantsMemory : ℕ → Place → Descriptor → BoxView → Type 0
AlienWantsMemory number place frame box = IsForIt number place frame ⊎ IsCramped box
