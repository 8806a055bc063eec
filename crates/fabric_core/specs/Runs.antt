-- Runs of a fabric over lists of events.
use Rattle.std.specs.Prelude.{◌≡◌, ℕ, ◌==◌, ◌<◌, Bool, false, List, [], ◌∷◌, ◌++◌, length, map, slice_index_or, Option, Some, None, if◌then◌else◌}
use Rattle.fab_types.specs.declared.outcome.Outcome.{Outcome}
use Rattle.fab_types.specs.declared.outcome.Outcome.TheVariants.{Moved}
use Rattle.platform.specs.Share.{Share}
use Rattle.domain.specs.declared.entry.Entry.{Entry}
use Rattle.domain.specs.declared.entry.Entry.TheVariants as entry
use Rattle.domain.specs.Domains.{DomainView}
use Rattle.domains.specs.Domains.{place_of, place_of_function}
use Rattle.fabric_core.specs.declared.event.Event.{Event}
use Rattle.fabric_core.specs.declared.event.Event.TheVariants.{Submit, Tick, Mmio}
use Rattle.fabric_core.specs.Events.{StepsTo}
use Rattle.fabric_core.specs.World.{World}

-- the events have these outcomes, one after another
abbrev pub Run : World → List Event → List Outcome → World → Type 0
Run old [] [] new = new ≡ old
Run old (event ∷ events) (outcome ∷ outcomes) new = (mid : World) × StepsTo old event outcome mid × Run mid events outcomes new
Run old [] (outcome ∷ outcomes) new = ⊥
Run old (event ∷ events) [] new = ⊥

-- the begins in a journal, with their inputs
abbrev pub begins_of : List Entry → List Entry
begins_of [] = []
begins_of (entry.Submit f b ∷ journal) = entry.Submit f b ∷ begins_of journal
begins_of (entry.Tick f ∷ journal) = entry.Tick f ∷ begins_of journal
begins_of (entry.Mmio access ∷ journal) = entry.Mmio access ∷ begins_of journal
begins_of (entry.Refuse n ∷ journal) = begins_of journal
begins_of (entry.Carry n ∷ journal) = begins_of journal
begins_of (entry.Deliver n ∷ journal) = begins_of journal
begins_of (entry.Alien place sender bytes ∷ journal) = begins_of journal

-- does this domain stand at the place?
abbrev pub is_home : ℕ → Option ℕ → Bool
is_home place None = false
is_home place (Some home) = home == place

-- what an event begins in the domain at this place, if it is the home of its begin
abbrev pub begun_at : List DomainView → ℕ → Event → List Entry
begun_at domains place (Submit f b) = if is_home place (place_of_function domains f) then entry.Submit f b ∷ [] else []
begun_at domains place (Tick f) = if is_home place (place_of_function domains f) then entry.Tick f ∷ [] else []
begun_at domains place (Mmio domain access) = if is_home place (place_of domains domain) then entry.Mmio access ∷ [] else []
begun_at domains place event = []

abbrev pub accepted_one : List DomainView → ℕ → Event → Outcome → List Entry
accepted_one domains place event Moved = begun_at domains place event
accepted_one domains place event outcome = []

-- the begins of the domain at this place that were accepted, in their order
abbrev pub accepted : List DomainView → ℕ → List Event → List Outcome → List Entry
accepted domains place [] outcomes = []
accepted domains place (event ∷ events) [] = []
accepted domains place (event ∷ events) (outcome ∷ outcomes) = accepted_one domains place event outcome ++ accepted domains place events outcomes

abbrev pub share_of : DomainView → Share
share_of d = d.share

-- the shares are the same, and to the begins in the journal of the domain at each place these were added
pub record Grow (begun : ℕ → List Entry) (old new : List DomainView) : Type 0 where
  pub shares : map share_of new ≡ map share_of old
  pub begins : (place : ℕ) (d : DomainView) → place < length old → begins_of (slice_index_or new place d).journal ≡ begins_of (slice_index_or old place d).journal ++ begun place

-- to the begins in each journal the accepted ones were added
abbrev pub HaveBegun : List Event → List Outcome → List DomainView → List DomainView → Type 0
HaveBegun events outcomes old new = Grow (λ place. accepted old place events outcomes) old new
