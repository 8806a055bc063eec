-- What becomes of the next begin of a ring, in the domain of a number. What is said of a domain is said of some state of it,
-- since other threads use it too.
use Rattle.std.specs.Prelude.{◌≡◌, ℕ, ◌⊎◌, Bool, true, false, List, Option, Some, None, IsSome}
use Rattle.fab_types.specs.declared.faults.begin.BeginFault.{BeginFault}
use Rattle.frame_log.specs.Descriptor.{Descriptor}
use Rattle.rtrb.specs.Ring.{received}
use Rattle.domain.specs.Domains.{DomainView}
use Rattle.domain.specs.Machine.{replay}
use Rattle.injector.specs.Serves.{Accepts, IsIdle, Refuses}
use Rattle.injector.specs.declared.begin_ring.BeginRing.{BeginRing}
use Rattle.thread_domains.specs.Locks.{place_of}
use Rattle.outboxes.specs.Outboxes.{BoxView}
use Rattle.thread_workers.specs.Boxes.{IsCramped, with_answer, with_places}
use Rattle.thread_workers.specs.declared.ends.serving.Begun.{Begun}
use Rattle.thread_workers.specs.declared.ends.serving.Begun.TheVariants.{Accepted, Refused, Waits, Idle}

-- did it leave the ring, and isn't held either?
abbrev pub has_served : Begun → Bool
has_served Accepted = true
has_served Refused = true
has_served Waits = false
has_served Idle = false

-- the domain accepted it, by the one entry that it asks for, and what that emitted waits behind the others in the outbox
pub record AcceptedThere (number : ℕ) (box box' : BoxView) (ring ring' : BeginRing) : Type 0 where
  pub before : DomainView
  pub after : DomainView
  pub home : number ≡ before.share.domain
  pub replays : replay before.share before.journal ≡ Some before.state
  pub sent : Option Descriptor
  pub accepts : Accepts before ring after ring' sent
  pub places : ℕ
  pub put : box' ≡ with_answer sent (with_places places box)

-- the domain refused it, which is then counted, or memory was refused to the call, and it is held
pub record RefusedThere (number : ℕ) (ring ring' : BeginRing) : Type 0 where
  pub before : DomainView
  pub after : DomainView
  pub home : number ≡ before.share.domain
  pub replays : replay before.share before.journal ≡ Some before.state
  pub fault : BeginFault
  pub refuses : Refuses before ring after ring' fault

-- there was none, if the domain was the one of that number
pub record IdleThere (number : ℕ) (ring ring' : BeginRing) : Type 0 where
  pub before : DomainView
  pub after : DomainView
  pub replays : replay before.share before.journal ≡ Some before.state
  pub idle : number ≡ before.share.domain → IsIdle before ring after ring'

-- none was taken out of the ring, accepted or refused
pub record AreSameBegins (ring ring' : BeginRing) : Type 0 where
  pub held : ring'.held ≡ ring.held
  pub taken : received ring'.consumer ≡ received ring.consumer
  pub counts : (ring'.accepted ≡ ring.accepted) × (ring'.refused ≡ ring.refused)

-- it was refused, by the first refusal that applies
pub record IsRefused (number : ℕ) (box box' : BoxView) (ring ring' : BeginRing) : Type 0 where
  pub refused : RefusedThere number ring ring'
  pub let_go : ring'.held ≡ None
  pub places : box' ≡ with_places box'.places box

-- Memory was refused: to its call, so that it is held now; or to places in the outbox, and no begin was taken.
pub record HasToStay (number : ℕ) (box box' : BoxView) (ring ring' : BeginRing) : Type 0 where
  pub memory : (RefusedThere number ring ring' × IsSome ring'.held) ⊎ (IsCramped box × (ring' ≡ ring))
  pub places : box' ≡ with_places box'.places box

-- There was none. Nothing is said of a number without a lock.
pub record HasNoBegin (locks : List ℕ) (number : ℕ) (box box' : BoxView) (ring ring' : BeginRing) : Type 0 where
  pub none : IsSome (place_of locks number) → IdleThere number ring ring'
  pub same : AreSameBegins ring ring'
  pub places : box' ≡ with_places box'.places box

-- what became of it, as is said
abbrev pub ServesNext : List ℕ → ℕ → Begun → BoxView → BoxView → BeginRing → BeginRing → Type 0
ServesNext locks number Accepted box box' ring ring' = AcceptedThere number box box' ring ring'
ServesNext locks number Refused box box' ring ring' = IsRefused number box box' ring ring'
ServesNext locks number Waits box box' ring ring' = HasToStay number box box' ring ring'
ServesNext locks number Idle box box' ring ring' = HasNoBegin locks number box box' ring ring'

-- no begin was accepted or refused, and the outbox is as it was, but for how many places it has
pub record RestsThere (box box' : BoxView) (ring ring' : BeginRing) : Type 0 where
  pub counts : (ring'.accepted ≡ ring.accepted) × (ring'.refused ≡ ring.refused)
  pub places : box' ≡ with_places box'.places box
