-- Entries whose numbers are in the ranges of their types, with accesses within a page.
use Rattle.std.specs.Prelude.{ℕ, ◌<◌, ◌≤◌, ◌^◌, Option, Some, None, ⊤}
use Rattle.hex.specs.Hex.{IsBytes}
use Rattle.fab_types.specs.declared.head.Answerer.{Answerer}
use Rattle.fab_types.specs.declared.head.Answerer.TheVariants as by
use Rattle.fab_types.specs.declared.head.Parties.{Parties}
use Rattle.fab_types.specs.declared.head.Parties.TheVariants.{Upward, Downward, Answer}
use Rattle.fab_types.specs.declared.host_access.HostAccess.{HostAccess}
use Rattle.fab_types.specs.declared.host_access.Operation.{Operation}
use Rattle.fab_types.specs.declared.host_access.Operation.TheVariants.{Read, Write}
use Rattle.fab_types.specs.declared.origin.Origin.{Origin}
use Rattle.fab_types.specs.declared.origin.Origin.TheVariants as origin
use Rattle.fab_types.specs.declared.place.Place.{Place}
use Rattle.fab_types.specs.declared.place.Place.TheVariants.{Outbox, Egress, Wire, Ingress}
use Rattle.domain.specs.declared.entry.Entry.{Entry}
use Rattle.domain.specs.declared.entry.Entry.TheVariants as entry

abbrev pub IsId : ℕ → Type 0
IsId id = id < 2 ^ 16

abbrev pub IsDomain : ℕ → Type 0
IsDomain domain = (1 ≤ domain) × (domain ≤ 31)

abbrev pub IsOrigin : Origin → Type 0
IsOrigin (origin.Function function) = IsId function
IsOrigin (origin.Host domain) = IsDomain domain

abbrev pub IsPlace : Place → Type 0
IsPlace (Outbox origin) = IsOrigin origin
IsPlace (Egress direction) = IsId direction.lower
IsPlace (Wire direction) = IsId direction.lower
IsPlace (Ingress direction) = IsId direction.lower

abbrev pub IsAnswerer : Answerer → Type 0
IsAnswerer by.Port = ⊤
IsAnswerer by.Host = ⊤
IsAnswerer (by.Function function) = IsId function

abbrev pub IsAddressee : Option Origin → Type 0
IsAddressee None = ⊤
IsAddressee (Some origin) = IsOrigin origin

abbrev pub AreParties : Parties → Type 0
AreParties (Upward function) = IsId function
AreParties (Downward function) = IsId function
AreParties (Answer answerer addressee) = IsAnswerer answerer × IsAddressee addressee

-- a count of DW has at most nine digits, as in a script
abbrev pub IsOperation : Operation → Type 0
IsOperation (Read count) = count < 10 ^ 9
IsOperation (Write bytes) = IsBytes bytes

abbrev pub IsAccess : HostAccess → Type 0
IsAccess access = IsId access.function × (access.offset < 4096) × IsOperation access.operation

abbrev pub IsLegible : Entry → Type 0
IsLegible (entry.Submit function bytes) = IsId function × IsBytes bytes
IsLegible (entry.Tick function) = IsId function
IsLegible (entry.Mmio access) = IsAccess access
IsLegible (entry.Refuse number) = number < 2 ^ 64
IsLegible (entry.Carry number) = number < 2 ^ 64
IsLegible (entry.Deliver number) = number < 2 ^ 64
IsLegible (entry.Alien place sender bytes) = IsPlace place × AreParties sender × IsBytes bytes

-- ---- what the types of numbers say by themselves

-- a count of DW may have ten digits
abbrev pub OperationFits : Operation → Type 0
OperationFits (Read count) = ⊤
OperationFits (Write bytes) = IsBytes bytes

-- the same of any entry, whether a domain's machine has it or not
abbrev pub EntryFits : Entry → Type 0
EntryFits (entry.Submit function bytes) = IsId function × IsBytes bytes
EntryFits (entry.Tick function) = IsId function
EntryFits (entry.Mmio access) = IsId access.function × OperationFits access.operation
EntryFits (entry.Refuse number) = number < 2 ^ 64
EntryFits (entry.Carry number) = number < 2 ^ 64
EntryFits (entry.Deliver number) = number < 2 ^ 64
EntryFits (entry.Alien place sender bytes) = IsPlace place × AreParties sender × IsBytes bytes
