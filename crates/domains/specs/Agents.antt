-- The agents of a fabric: its domains, and what their functions and hosts have emitted and no link has taken yet.
use Rattle.std.specs.Prelude.{◌≡◌, ◌⊎◌, ℕ, ◌==◌, Bool, false, List, [], ◌∷◌, ◌++◌, map, slice_get, slice_set, Option, Some, None, IsSome, option_map, if◌then◌else◌}
use Rattle.std.specs.List.{position}
use Rattle.fab_types.specs.declared.origin.Origin.{Origin}
use Rattle.fab_types.specs.declared.origin.Origin.TheVariants.{Function, Host}
use Rattle.fab_types.specs.declared.place.Place.{Place}
use Rattle.frame_log.specs.Descriptor.{Descriptor}
use Rattle.fab_types.specs.Origins.{same_origin}
use Rattle.platform.specs.Platform.{Platform}
use Rattle.fab_types.specs.declared.host_access.HostAccess.{HostAccess}
use Rattle.domain.specs.declared.entry.Entry.TheVariants as entry
use Rattle.domain.specs.Domains.{DomainView}
use Rattle.domain.specs.Machine.{replay}
use Rattle.outboxes.specs.Outboxes.{BoxView, boxes_of}
use Rattle.domains.specs.Aliens.{aliened, aliened_at}
use Rattle.domains.specs.Domains.{Made, domain_at, made, made_at, place_of, place_of_function, starting_domains}

-- what an origin has waiting, oldest first
pub record Outbox : Type 0 where
  pub origin : Origin
  pub waiting : List Descriptor

pub record AgentsView : Type 0 where
  pub domains : List DomainView
  pub outboxes : List Outbox

-- ---- the outbox of an origin

-- the place of the outbox of an origin, if it has one
unfoldable pub outbox_place : List Outbox → Origin → Option ℕ
outbox_place boxes origin = position (λ box. same_origin box.origin origin) boxes

abbrev pub waiting_in : Option Outbox → List Descriptor
waiting_in None = []
waiting_in (Some box) = box.waiting

abbrev pub waiting_at : List Outbox → Option ℕ → List Descriptor
waiting_at boxes None = []
waiting_at boxes (Some place) = waiting_in (slice_get boxes place)

-- what waits of an origin; nothing where it has no outbox
abbrev pub waiting_of : List Outbox → Origin → List Descriptor
waiting_of boxes origin = waiting_at boxes (outbox_place boxes origin)

abbrev pub with_waiting_in : List Outbox → ℕ → List Descriptor → Option Outbox → List Outbox
with_waiting_in boxes place waiting None = boxes
with_waiting_in boxes place waiting (Some box) = slice_set boxes place (record { origin = box.origin; waiting = waiting })

abbrev pub with_waiting_at : List Outbox → List Descriptor → Option ℕ → List Outbox
with_waiting_at boxes waiting None = boxes
with_waiting_at boxes waiting (Some place) = with_waiting_in boxes place waiting (slice_get boxes place)

-- this waits of an origin, and all others have waiting what they had
abbrev pub with_waiting : List Outbox → Origin → List Descriptor → List Outbox
with_waiting boxes origin waiting = with_waiting_at boxes waiting (outbox_place boxes origin)

-- the packet that an origin emitted, if any, waits behind its others
abbrev pub joined : List Outbox → Origin → Option Descriptor → List Outbox
joined boxes origin None = boxes
joined boxes origin (Some frame) = with_waiting boxes origin (waiting_of boxes origin ++ frame ∷ [])

-- ---- what an entry makes of the agents

-- all domains after an entry, and its packet waits of this origin
abbrev pub emitted : AgentsView → Origin → Made → AgentsView
emitted agents origin m = record { domains = m.domains; outboxes = joined agents.outboxes origin m.sent }

-- none where the entry is illegal
abbrev pub emitted_if : AgentsView → Origin → Option Made → Option AgentsView
emitted_if agents origin all = option_map (emitted agents origin) all

-- a function submits a packet, in its own domain
abbrev pub submitted : AgentsView → ℕ → List ℕ → Option AgentsView
submitted agents function bytes = emitted_if agents (Function function) (made_at agents.domains (entry.Submit function bytes) (place_of_function agents.domains function))

-- the program of a function has a tick, in its own domain
abbrev pub ticked : AgentsView → ℕ → Option AgentsView
ticked agents function = emitted_if agents (Function function) (made_at agents.domains (entry.Tick function) (place_of_function agents.domains function))

-- the host of a domain reads or writes a register page
abbrev pub accessed : AgentsView → ℕ → HostAccess → Option AgentsView
accessed agents domain access = emitted_if agents (Host domain) (made agents.domains domain (entry.Mmio access))

-- the host takes a request, and what answers it waits of the host of its home
abbrev pub carried_by_host : AgentsView → Descriptor → Option AgentsView
carried_by_host agents frame = emitted_if agents (Host frame.domain) (made agents.domains frame.domain (entry.Carry frame.number))

-- is a function one of this domain?
abbrev pub is_of_domain : ℕ → Option DomainView → Bool
is_of_domain domain None = false
is_of_domain domain (Some d) = d.share.domain == domain

abbrev pub is_function_of : List DomainView → ℕ → ℕ → Bool
is_function_of domains function domain = is_of_domain domain (domain_at domains (place_of_function domains function))

-- a function takes a request; none where it isn't one of the request's home
abbrev pub carried_at : List DomainView → ℕ → Descriptor → Option Made
carried_at domains function frame = if is_function_of domains function frame.domain then made domains frame.domain (entry.Carry frame.number) else None

-- and what answers it waits of that function
abbrev pub carried_by_function : AgentsView → ℕ → Descriptor → Option AgentsView
carried_by_function agents function frame = emitted_if agents (Function function) (carried_at agents.domains function frame)

-- whom a completion answers takes it
abbrev pub delivered : AgentsView → Descriptor → Option AgentsView
delivered agents frame = option_map (λ m. record { domains = m.domains; outboxes = agents.outboxes }) (made agents.domains frame.domain (entry.Deliver frame.number))

-- the domain with this number gets the entry of a packet that the host took, and what answers it waits of that host
abbrev pub aliened_at_host : AgentsView → ℕ → Place → Descriptor → Option AgentsView
aliened_at_host agents domain place frame = emitted_if agents (Host domain) (aliened agents.domains domain place frame)

-- the domain of a function gets the entry of a packet that the function took, and what answers it waits of that function
abbrev pub aliened_at_function : AgentsView → ℕ → Place → Descriptor → Option AgentsView
aliened_at_function agents function place frame = emitted_if agents (Function function) (aliened_at agents.domains (place_of_function agents.domains function) place frame)

-- the agents without the packet that was taken from an origin, which leaves this waiting
abbrev pub taken_from : AgentsView → Origin → List Descriptor → AgentsView
taken_from agents origin waiting = record { domains = agents.domains; outboxes = with_waiting agents.outboxes origin waiting }

-- ---- what always holds

-- the place of the domain that an origin is of
abbrev pub home_of : List DomainView → Origin → Option ℕ
home_of domains (Function f) = place_of_function domains f
home_of domains (Host n) = place_of domains n

-- each domain is found by its number, and each origin that is of a domain has an outbox
pub record IsSettled (agents : AgentsView) : Type 0 where
  pub numbered : (place : ℕ) (d : DomainView) → slice_get agents.domains place ≡ Some d → place_of agents.domains d.share.domain ≡ Some place
  pub boxed : (origin : Origin) (place : ℕ) → home_of agents.domains origin ≡ Some place → IsSome (outbox_place agents.outboxes origin)

-- what waits anywhere waits in an outbox that is found by its origin
abbrev pub AreFound : List Outbox → Type 0
AreFound boxes = (place : ℕ) (box : Outbox) → slice_get boxes place ≡ Some box → (box.waiting ≡ []) ⊎ (outbox_place boxes box.origin ≡ Some place)

-- the state of each domain is what its machine alone makes of its journal, which is legal
abbrev pub AreReplayed : List DomainView → Type 0
AreReplayed domains = (place : ℕ) (d : DomainView) → slice_get domains place ≡ Some d → replay d.share d.journal ≡ Some d.state

-- ---- the start

abbrev pub empty : BoxView → Outbox
empty box = record { origin = box.origin; waiting = [] }

-- the domains of a layout at their start, and of each function and host an outbox in which nothing waits
abbrev pub agents_of : Platform → AgentsView
agents_of platform = record { domains = starting_domains platform; outboxes = map empty (boxes_of platform) }
