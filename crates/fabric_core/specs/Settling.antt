-- What becomes of a packet that was taken, where its home may give it back.
use Rattle.std.specs.Prelude.{◌≡◌, ⊤, List, [], ◌∷◌, ◌++◌, ℕ, ◌⊎◌, true, false, ◌&&◌, Bool, Option, Some, None, IsSome, Result, Ok, Err, option_to_list}
use Rattle.std.specs.Option.{IfSome}
use Rattle.fab_types.specs.declared.class.Class.TheVariants.{Completion}
use Rattle.fab_types.specs.declared.outcome.Outcome.{Outcome}
use Rattle.fab_types.specs.declared.outcome.Outcome.TheVariants.{Moved, Idle, Refused, NoMemory}
use Rattle.fab_types.specs.declared.violation.Violation.{Violation}
use Rattle.frame_log.specs.Descriptor.{Descriptor}
use Rattle.frame_log.specs.declared.fault.FrameFault.{FrameFault}
use Rattle.frame_log.specs.declared.fault.FrameFault.TheVariants as fault
use Rattle.domain.specs.declared.entry.Entry.TheVariants as entry
use Rattle.domain.specs.Domains.{DomainView}
use Rattle.domains.specs.Agents.{AgentsView, carried_at}
use Rattle.link.specs.Channels.{is_full}
use Rattle.link.specs.Simplexes.{simplex_restored}
use Rattle.lane.specs.Lanes.{Class, class_of, eligible}
use Rattle.domains.specs.Aliens.{answers}
use Rattle.domains.specs.Domains.{Made, made}
use Rattle.topology.specs.declared.nodes.LinkEnd.{LinkEnd}
use Rattle.interconnect.specs.declared.misrouted.Misrouted.{Misrouted}
use Rattle.interconnect.specs.Moves.{channel_at, left_at, put_at}
use Rattle.interconnect.specs.Views.{InterconnectView, IsSameRest, channels, simplex_at}
use Rattle.received.specs.declared.received.Received.{Received}
use Rattle.fabric_core.specs.Passing.{answered_at}

-- the entry that its home's machine has of a packet at the host, if it has one, and what that makes
abbrev pub entry_by_host : List DomainView → Descriptor → Received → Option Made
entry_by_host domains frame Received.Relayed = None
entry_by_host domains frame Received.Request = made domains frame.domain (entry.Carry frame.number)
entry_by_host domains frame Received.Completion = made domains frame.domain (entry.Deliver frame.number)
entry_by_host domains frame Received.Unknown = None

-- the same at a function
abbrev pub entry_by_function : List DomainView → ℕ → Descriptor → Received → Option Made
entry_by_function domains function frame Received.Relayed = None
entry_by_function domains function frame Received.Request = carried_at domains function frame
entry_by_function domains function frame Received.Completion = made domains frame.domain (entry.Deliver frame.number)
entry_by_function domains function frame Received.Unknown = None

-- what a packet may want memory for: an entry that emits another, or to be an alien packet or a stray
abbrev pub EntryWants : Option Made → Type 0
EntryWants None = ⊤
EntryWants (Some m) = IsSome m.sent

-- the agents took the packet, or gave it back and are as they were; for want of memory only where it may want some
abbrev pub Takes : Option AgentsView → Type 0 → Descriptor → AgentsView → AgentsView → Result ⊤ FrameFault → Type 0
Takes all wants frame old new (Ok done) = all ≡ Some new
Takes all wants frame old new (Err (fault.Stray given)) = (given ≡ frame) × (all ≡ None) × (new ≡ old)
Takes all wants frame old new (Err (fault.NoMemory given)) = (given ≡ frame) × (new ≡ old) × wants

-- a packet that was just taken there can be put back
abbrev pub IsTaken : InterconnectView → LinkEnd → Descriptor → Type 0
IsTaken h end frame = IsSome (simplex_restored (simplex_at h.nodes end) frame)

abbrev pub frame_of : FrameFault → Descriptor
frame_of (fault.Stray given) = given
frame_of (fault.NoMemory given) = given

abbrev pub IsTakenIn : InterconnectView → LinkEnd → Result ⊤ FrameFault → Type 0
IsTakenIn h end (Ok done) = ⊤
IsTakenIn h end (Err fault) = IsTaken h end (frame_of fault)

-- it was put back where it was taken
pub record IsBack (old new : InterconnectView) (end : LinkEnd) (frame : Descriptor) : Type 0 where
  pub waiting : (left : List Descriptor) → simplex_restored (simplex_at old.nodes end) frame ≡ Some left → channels new ≡ left_at (channels old) end left
  pub rest : IsSameRest old new

-- it is kept as one that nobody has a case for, or was put back for want of memory
abbrev pub Strays : InterconnectView → InterconnectView → List Descriptor → List Descriptor → LinkEnd → Descriptor → Outcome → Type 0
Strays old new strays strays' end frame Moved = (new ≡ old) × (strays' ≡ strays ++ frame ∷ [])
Strays old new strays strays' end frame NoMemory = IsBack old new end frame × (strays' ≡ strays)
Strays old new strays strays' end frame Idle = ⊥
Strays old new strays strays' end frame (Refused fault) = ⊥

-- what becomes of it by what the agents said
abbrev pub Settles : InterconnectView → InterconnectView → List Descriptor → List Descriptor → LinkEnd → Outcome → Result ⊤ FrameFault → Type 0
Settles old new strays strays' end outcome (Ok done) = (outcome ≡ Moved) × (new ≡ old) × (strays' ≡ strays)
Settles old new strays strays' end outcome (Err (fault.Stray given)) = Strays old new strays strays' end given outcome
Settles old new strays strays' end outcome (Err (fault.NoMemory given)) = (outcome ≡ NoMemory) × IsBack old new end given × (strays' ≡ strays)

-- the eligible packet of a class went from a receiver to another sender, or nothing moved
pub record Moves (old new : InterconnectView) (exit end : LinkEnd) (class : Class) : Type 0 where
  pub frame : Descriptor
  pub left : List Descriptor
  pub place : is_full class (channel_at (channels old) exit) ≡ false
  pub taken : eligible class (channel_at (channels old) end).ingress ≡ Some (frame, left)
  pub put : channels new ≡ put_at (left_at (channels old) end left) exit frame

-- the host's sender has no place for a packet of the class, or none is eligible
abbrev pub IsStuck : InterconnectView → Option LinkEnd → LinkEnd → Class → Type 0
IsStuck old None end class = ⊤
IsStuck old (Some exit) end class = (is_full class (channel_at (channels old) exit) ≡ true) ⊎ (eligible class (channel_at (channels old) end).ingress ≡ None)

abbrev pub RelaysBy : InterconnectView → InterconnectView → Option LinkEnd → LinkEnd → Class → Outcome → Type 0
RelaysBy old new None end class Moved = ⊥
RelaysBy old new (Some exit) end class Moved = Moves old new exit end class
RelaysBy old new exit end class Idle = IsStuck old exit end class × (channels new ≡ channels old)
RelaysBy old new exit end class (Refused fault) = ⊥
RelaysBy old new exit end class NoMemory = ⊥

-- the eligible packet of a class goes to this sender, if there is one and it has a place for it
pub record Relays (old new : InterconnectView) (exit : Option LinkEnd) (end : LinkEnd) (class : Class) (outcome : Outcome) : Type 0 where
  pub by : RelaysBy old new exit end class outcome
  pub rest : IsSameRest old new

-- what answers a packet, if anything does, is a completion
abbrev pub AnswersByCompletion : Option Made → Type 0
AnswersByCompletion None = ⊤
AnswersByCompletion (Some m) = IfSome m.sent (λ answer. class_of answer ≡ Completion)

-- a packet that a port has no case for is gone: what answers it waits at the port's own output, and its violation is reported
pub record IsMisrouted (old new : InterconnectView) (agents agents' : AgentsView) (violations violations' : List Violation) (misrouted : Misrouted) (m : Made) : Type 0 where
  pub answered : channels new ≡ answered_at (channels old) misrouted.own m.sent
  pub rest : IsSameRest old new
  pub entered : agents' ≡ record { domains = m.domains; outboxes = agents.outboxes }
  pub told : violations' ≡ violations ++ option_to_list misrouted.report

-- or it was put back, and all else is as it was
pub record IsLeft (old new : InterconnectView) (agents agents' : AgentsView) (violations violations' : List Violation) (misrouted : Misrouted) (frame : Descriptor) : Type 0 where
  pub back : IsBack old new misrouted.input frame
  pub same : agents' ≡ agents
  pub told : violations' ≡ violations

-- has the port's own output no place for what answers it?
abbrev pub must_wait : InterconnectView → Misrouted → Made → Bool
must_wait old misrouted m = answers (Some m) && is_full Completion (channel_at (channels old) misrouted.own)

-- what becomes of it, where its home's entry makes this
abbrev pub Misroutes : InterconnectView → InterconnectView → AgentsView → AgentsView → List Violation → List Violation → Misrouted → Descriptor → Made → Outcome → Type 0
Misroutes old new agents agents' violations violations' misrouted frame m Moved = (must_wait old misrouted m ≡ false) × IsMisrouted old new agents agents' violations violations' misrouted m
Misroutes old new agents agents' violations violations' misrouted frame m Idle = (must_wait old misrouted m ≡ true) × IsLeft old new agents agents' violations violations' misrouted frame
Misroutes old new agents agents' violations violations' misrouted frame m (Refused fault) = ⊥
Misroutes old new agents agents' violations violations' misrouted frame m NoMemory = (must_wait old misrouted m ≡ false) × IsLeft old new agents agents' violations violations' misrouted frame
