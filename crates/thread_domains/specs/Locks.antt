-- What is known of a call on a domain that other threads use too. No clause can name the domain as it was when its lock
-- was taken. So each of these says: there was a state of the domain of that number, the replay of its journal, in which
-- this was so.
use Rattle.std.specs.Prelude.{◌≡◌, ℕ, ◌==◌, Bool, List, Option, Some, None, IsSome, option_map}
use Rattle.std.specs.List.{position}
use Rattle.frame_log.specs.Descriptor.{Descriptor}
use Rattle.domain.specs.declared.entry.Entry.{Entry}
use Rattle.domain.specs.declared.entry.Entry.TheVariants.{Deliver}
use Rattle.domain.specs.Deliveries.{HasArrived}
use Rattle.domain.specs.Domains.{DomainView, Emits, Makes}
use Rattle.domain.specs.Machine.{change, replay}
use Rattle.domain_state.specs.State.{item_at}

-- ---- which lock

-- the place of the lock of this number
unfoldable pub place_of : List ℕ → ℕ → Option ℕ
place_of numbers number = position (λ n. n == number) numbers

-- ---- an entry

-- it was legal, was made, and this was the packet that it emitted, if any
pub record MadeThere (number : ℕ) (entry : Entry) (answer : Option Descriptor) : Type 0 where
  pub before : DomainView
  pub after : DomainView
  pub home : number ≡ before.share.domain
  pub replays : replay before.share before.journal ≡ Some before.state
  pub makes : Makes before entry after answer

-- a completion was delivered, and a record was made of it exactly where that is said
pub record CompletedThere (frame : Descriptor) (is_recorded : Bool) : Type 0 where
  pub before : DomainView
  pub after : DomainView
  pub home : frame.domain ≡ before.share.domain
  pub replays : replay before.share before.journal ≡ Some before.state
  pub makes : Makes before (Deliver frame.number) after None
  pub arrives : HasArrived before.state frame.number after.state is_recorded

-- it was illegal, if the domain was the one of that number
pub record IllegalThere (number : ℕ) (entry : Entry) : Type 0 where
  pub before : DomainView
  pub replays : replay before.share before.journal ≡ Some before.state
  pub illegal : number ≡ before.share.domain → change before.share before.state entry ≡ None

-- it was legal
pub record LegalThere (number : ℕ) (entry : Entry) : Type 0 where
  pub before : DomainView
  pub home : number ≡ before.share.domain
  pub replays : replay before.share before.journal ≡ Some before.state
  pub legal : IsSome (change before.share before.state entry)

-- it would have emitted a packet, which wants memory
pub record WantedThere (number : ℕ) (entry : Entry) : Type 0 where
  pub before : DomainView
  pub home : number ≡ before.share.domain
  pub replays : replay before.share before.journal ≡ Some before.state
  pub emits : Emits before entry

-- ---- the bytes of a packet

-- those that are in flight under a number
abbrev pub bytes_in : DomainView → ℕ → Option (List ℕ)
bytes_in d n = option_map (λ e. e.bytes) (item_at d.state.flight n)

-- these were in flight under the packet's number
pub record FlyingThere (frame : Descriptor) (bytes : List ℕ) : Type 0 where
  pub before : DomainView
  pub home : frame.domain ≡ before.share.domain
  pub replays : replay before.share before.journal ≡ Some before.state
  pub flying : bytes_in before frame.number ≡ Some bytes

-- none were, if the domain was the packet's home
pub record AbsentThere (frame : Descriptor) : Type 0 where
  pub before : DomainView
  pub replays : replay before.share before.journal ≡ Some before.state
  pub absent : frame.domain ≡ before.share.domain → bytes_in before frame.number ≡ None
