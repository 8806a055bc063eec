-- Packets that are taken where their home has no case: who gets one, and what that entry makes of all domains.
use Rattle.std.specs.Prelude.{◌≡◌, ℕ, ◌==◌, Bool, false, is_some, List, Option, Some, None, IsSome, find, option_map}
use Rattle.std.specs.List.{list_any}
use Rattle.fab_types.specs.declared.head.Parties.{Parties}
use Rattle.fab_types.specs.declared.place.Place.{Place}
use Rattle.frame_log.specs.Descriptor.{Descriptor}
use Rattle.frame_log.specs.declared.fault.FrameFault.{FrameFault}
use Rattle.frame_log.specs.declared.fault.FrameFault.TheVariants.{Stray, NoMemory}
use Rattle.domain.specs.declared.entry.Entry.TheVariants.{Alien}
use Rattle.domain.specs.Domains.{DomainView}
use Rattle.request_handling.specs.Emissions.{Emission}
use Rattle.domain_state.specs.State.{item_at}
use Rattle.domains.specs.Domains.{Made, domain_at, made_at, place_of}

-- what its home has in flight under a packet's number
abbrev pub flown_by : ℕ → Option DomainView → Option Emission
flown_by n None = None
flown_by n (Some d) = item_at d.state.flight n

abbrev pub flown : List DomainView → ℕ → ℕ → Option Emission
flown domains domain n = flown_by n (domain_at domains (place_of domains domain))

-- the domain at a place of the list gets a packet that was taken there, with the bytes that are in flight
abbrev pub aliened_by : List DomainView → Option ℕ → Place → Parties → Option Emission → Option Made
aliened_by domains at place sender None = None
aliened_by domains at place sender (Some e) = made_at domains (Alien place sender e.bytes) at

-- the same of a packet that its home has in flight
abbrev pub aliened_at : List DomainView → Option ℕ → Place → Descriptor → Option Made
aliened_at domains at place frame = aliened_by domains at place frame.head.parties (flown domains frame.domain frame.number)

-- the domain with this number gets it
abbrev pub aliened : List DomainView → ℕ → Place → Descriptor → Option Made
aliened domains number place frame = aliened_at domains (place_of domains number) place frame

-- does what was made include a packet?
abbrev pub answers : Option Made → Bool
answers None = false
answers (Some m) = is_some m.sent

-- why a frame was given back: there is no such entry, or memory was refused to it
abbrev pub IsUntaken : Option Made → Descriptor → FrameFault → Type 0
IsUntaken all frame (Stray given) = (given ≡ frame) × (all ≡ None)
IsUntaken all frame (NoMemory given) = (given ≡ frame) × IsSome all

-- is it a frame of memory of this domain?
abbrev pub owns_frame : ℕ → DomainView → Bool
owns_frame page d = list_any (λ k. k == page) d.share.frames

-- the number of the first domain that a frame of memory is of
abbrev pub owner_of_frame : List DomainView → ℕ → Option ℕ
owner_of_frame domains page = option_map (λ d. d.share.domain) (find (owns_frame page) domains)
