-- What a clause sees of the agents, and what they keep: every origin has a place for each packet that it may yet emit.
-- No more were put under a class than its domain emitted, and the budget bounds what a domain may emit.
use Rattle.std.specs.Prelude.{◌≡◌, ℕ, ◌+◌, ◌*◌, ◌≤◌, List, length, map, slice_get, Some}
use Rattle.fab_types.specs.declared.origin.Origin.{Origin}
use Rattle.domain.specs.Domains.{DomainView}
use Rattle.domain.specs.Machine.{aliens_in, replay}
use Rattle.outboxes.specs.Outboxes.{BoxView, box_of, waiting}
use Rattle.lane.specs.Lanes.{Class}
use Rattle.port_queue.specs.PerClass.{at_class}
use Rattle.domains.specs.Domains.{place_of}
use Rattle.domains.specs.declared.agents.Agents.TheInside.{Inside}
use Rattle.domains.specs.Agents.{AgentsView, Outbox, home_of}

abbrev pub outbox_of : BoxView → Outbox
outbox_of box = record { origin = box.origin; waiting = waiting box }

abbrev pub seen : List DomainView → List BoxView → AgentsView
seen domains boxes = record { domains = domains; outboxes = map outbox_of boxes }

abbrev pub agents_view : Inside → AgentsView
agents_view e = seen e.domains e.outboxes

-- no more was put in under a class than the domain emitted, and there are places for all that it may emit
pub record IsRoomy (d : DomainView) (box : BoxView) : Type 0 where
  pub puts : (class : Class) → at_class box.puts class ≤ length d.state.flight
  pub places : 3 * d.share.budget + 2 * aliens_in d.journal ≤ box.places

-- there is such an outbox
pub record HasBox (boxes : List BoxView) (d : DomainView) (origin : Origin) : Type 0 where
  pub box : BoxView
  pub is_there : box_of boxes origin ≡ Some box
  pub roomy : IsRoomy d box

-- each domain is found by its number, its state is the replay of its journal, and each of its origins has such an outbox
pub record Keeps (domains : List DomainView) (boxes : List BoxView) : Type 0 where
  pub numbered : (place : ℕ) (d : DomainView) → slice_get domains place ≡ Some d → place_of domains d.share.domain ≡ Some place
  pub replayed : (place : ℕ) (d : DomainView) → slice_get domains place ≡ Some d → replay d.share d.journal ≡ Some d.state
  pub roomy : (origin : Origin) (place : ℕ) (d : DomainView) → home_of domains origin ≡ Some place → slice_get domains place ≡ Some d → HasBox boxes d origin

abbrev pub AreAgents : Inside → Type 0
AreAgents e = Keeps e.domains e.outboxes
