-- Where an event may want memory. All others are never refused any: packets that enter, travel, go on at ports or are sent
-- down again by the host, requests that nothing answers, and completions.
use Rattle.std.specs.Prelude.{◌≡◌, ⊤, ℕ, false, Option, Some, None, IsSome, slice_index_or}
use Rattle.fab_types.specs.declared.class.Class.{Class}
use Rattle.domain.specs.declared.entry.Entry.TheVariants as entry
use Rattle.domains.specs.Agents.{accessed, submitted}
use Rattle.port.specs.Courses.{course_of}
use Rattle.port.specs.declared.course.Forwarding.{Forwarding}
use Rattle.port.specs.declared.course.Forwarding.TheVariants.{To, Stop, NoCase}
use Rattle.domains.specs.Domains.{Emits, made, made_at, place_of_function}
use Rattle.topology.specs.declared.places.PortPlace.{PortPlace}
use Rattle.interconnect.specs.Passes.{index_of, no_place}
use Rattle.fabric_core.specs.declared.event.Event.{Event}
use Rattle.fabric_core.specs.declared.event.Event.TheVariants.{Submit, Tick, Mmio, Enter, Pass, Send, Take, Credit, Root, Arrive}
use Rattle.fabric_core.specs.Arrivals.{Taken, received_at, taken, taken_at, to_function, to_host}
use Rattle.received.specs.declared.received.Received.{Received}
use Rattle.received.specs.Received.{received_at_host}
use Rattle.switch_output.specs.Vetted.{may_go_on}
use Rattle.fabric_core.specs.Passing.{Site, site_at}
use Rattle.fabric_core.specs.Settling.{EntryWants, entry_by_function, entry_by_host}
use Rattle.fabric_core.specs.World.{World}

-- of what was taken, if anything was
abbrev pub OfTaken : (Taken → Type 0) → Option Taken → Type 0
OfTaken wants None = ⊥
OfTaken wants (Some t) = wants t

-- ---- at a port: for an answer, for a report, or for a packet that is kept

abbrev pub CourseWants : World → Site → Taken → Forwarding → Type 0
CourseWants w site t (To output) = may_go_on w.routes.ports t.frame ≡ false
CourseWants w site t (Stop None) = EntryWants (made w.agents.domains t.frame.domain (entry.Refuse t.frame.number))
CourseWants w site t (Stop (Some report)) = ⊤
CourseWants w site t NoCase = ⊤

abbrev pub TurnWants : World → Site → Taken → Type 0
TurnWants w site t = CourseWants w site t (course_of w.routes site.config t.frame.head)

abbrev pub PlaceWants : World → Class → ℕ → PortPlace → Type 0
PlaceWants w class i place = OfTaken (TurnWants w (site_at w i place)) (taken_at w.channels class place.input)

abbrev pub NumberWants : World → Class → Option ℕ → Type 0
NumberWants w class None = ⊥
NumberWants w class (Some i) = PlaceWants w class i (slice_index_or w.tree.places i no_place)

-- ---- at the host and at functions

-- what the host sends down again wants none
abbrev pub HostWantsBy : World → Taken → Received → Type 0
HostWantsBy w t Received.Relayed = ⊥
HostWantsBy w t Received.Request = EntryWants (entry_by_host w.agents.domains t.frame Received.Request)
HostWantsBy w t Received.Completion = EntryWants (entry_by_host w.agents.domains t.frame Received.Completion)
HostWantsBy w t Received.Unknown = ⊤

abbrev pub HostWants : World → Taken → Type 0
HostWants w t = HostWantsBy w t (received_at_host t.frame)

abbrev pub ArriveWants : World → ℕ → Taken → Type 0
ArriveWants w function t = EntryWants (entry_by_function w.agents.domains function t.frame (received_at w function t.frame))

-- ---- each event

abbrev pub WantsMemory : World → Event → Type 0
WantsMemory w (Submit function bytes) = IsSome (submitted w.agents function bytes)
WantsMemory w (Tick function) = Emits (made_at w.agents.domains (entry.Tick function) (place_of_function w.agents.domains function))
WantsMemory w (Mmio domain access) = IsSome (accessed w.agents domain access)
WantsMemory w (Enter origin class) = ⊥
WantsMemory w (Pass port class) = NumberWants w class (index_of w.tree.places port)
WantsMemory w (Send direction class) = ⊥
WantsMemory w (Take direction) = ⊥
WantsMemory w (Credit direction) = ⊥
WantsMemory w (Root class) = OfTaken (HostWants w) (taken w to_host class)
WantsMemory w (Arrive function class) = OfTaken (ArriveWants w function) (taken w (to_function function) class)
