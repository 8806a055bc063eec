-- Stations at which nothing can move, so that a sweep may pass them over.
use Rattle.std.specs.Prelude.{◌≡◌, ◌⊎◌, ℕ, ◌<◌, Bool, true, false, not, ◌&&◌, ◌||◌, List, [], ◌∷◌, length, map, replicate, slice_get, All, Contains, Option, Some, None}
use Rattle.topology.specs.Topologies.{Tree}
use Rattle.fabric_core.specs.declared.event.Event.{Event}
use Rattle.fabric_core.specs.declared.event.Event.TheVariants.{Submit, Tick, Mmio, Take, Credit}
use Rattle.fabric_core.specs.declared.station.Station.{Station}
use Rattle.fabric_core.specs.declared.station.Station.TheVariants as station
use Rattle.fabric_core.specs.Invariant.{IsFabric}
use Rattle.fabric_core.specs.Stations.{classes, is_quiet, taking}
use Rattle.fabric_core.specs.Still.{IsIdleAt}
use Rattle.sweeps.specs.Waking.{changes_outbox, is_changed_by_credits, is_changed_by_receiving, is_changed_by_taking, is_freed_by_sending, reach_of}
use Rattle.fabric_core.specs.World.{World, is_guarded}
use Rattle.sweeps.specs.declared.wakeful.Wakeful.{Wakeful}
use Rattle.sweeps.specs.declared.moves.Moves.{Moves}
use Rattle.sweeps.specs.declared.site.How.{How}
use Rattle.sweeps.specs.declared.site.How.TheVariants.{Taking, Freeing, Receiving, Updating}
use Rattle.sweeps.specs.declared.site.Site.{Site}
use Rattle.sweeps.specs.declared.watchpoint.Watchpoint.{Watchpoint}
use Rattle.sweeps.specs.Sweeps.{Sweeps}

-- ---- the watchpoints of a sweep

abbrev pub station_of : Watchpoint → Station
station_of watchpoint = watchpoint.station

abbrev pub site_of : Tree → Station → Site
site_of tree s = record { station = s; reach = reach_of tree s }

-- may what happens at the one wake the other?
abbrev pub wakes_by : How → Site → Site → Bool
wakes_by Taking one other = changes_outbox one.station other.station || is_changed_by_taking one.reach other.reach
wakes_by Freeing one other = is_freed_by_sending one.reach other.reach
wakes_by Receiving one other = is_changed_by_receiving one.reach other.reach
wakes_by Updating one other = is_changed_by_credits one.reach other.reach

-- the place of each that may be woken is among these
abbrev pub AreListed : How → Site → List Site → List ℕ → Type 0
AreListed how site sites places = (other : ℕ) (s : Site) → slice_get sites other ≡ Some s → wakes_by how site s ≡ true → Contains places other

-- those that are listed are watchpoints
pub record AreWithin (most : ℕ) (watchpoint : Watchpoint) : Type 0 where
  pub taking : All (λ place. place < most) watchpoint.by_taking.items
  pub freeing : All (λ place. place < most) watchpoint.by_freeing.items
  pub receiving : All (λ place. place < most) watchpoint.by_receiving.items
  pub updating : All (λ place. place < most) watchpoint.by_updating.items

-- the watchpoint of a site among these
pub record IsWatchpoint (site : Site) (sites : List Site) (watchpoint : Watchpoint) : Type 0 where
  pub station : watchpoint.station ≡ site.station
  pub taking : AreListed Taking site sites watchpoint.by_taking.items
  pub freeing : AreListed Freeing site sites watchpoint.by_freeing.items
  pub receiving : AreListed Receiving site sites watchpoint.by_receiving.items
  pub updating : AreListed Updating site sites watchpoint.by_updating.items
  pub within : AreWithin (length sites) watchpoint

abbrev pub site_station : Site → Station
site_station site = site.station

-- it is the watchpoint of the site at its place
pub record HasSite (sites : List Site) (place : ℕ) (watchpoint : Watchpoint) : Type 0 where
  pub site : Site
  pub at : slice_get sites place ≡ Some site
  pub is : IsWatchpoint site sites watchpoint

-- each station that an event at this one may wake is listed by its place
pub record Wakes (tree : Tree) (watchpoint other : Watchpoint) (place : ℕ) : Type 0 where
  pub taking : wakes_by Taking (site_of tree watchpoint.station) (site_of tree other.station) ≡ true → Contains watchpoint.by_taking.items place
  pub freeing : wakes_by Freeing (site_of tree watchpoint.station) (site_of tree other.station) ≡ true → Contains watchpoint.by_freeing.items place
  pub receiving : wakes_by Receiving (site_of tree watchpoint.station) (site_of tree other.station) ≡ true → Contains watchpoint.by_receiving.items place
  pub updating : wakes_by Updating (site_of tree watchpoint.station) (site_of tree other.station) ≡ true → Contains watchpoint.by_updating.items place

abbrev pub AreWatchpoints : Tree → List Watchpoint → Type 0
AreWatchpoints tree watchpoints = (place other : ℕ) (watchpoint s : Watchpoint) → slice_get watchpoints place ≡ Some watchpoint → slice_get watchpoints other ≡ Some s → Wakes tree watchpoint s other

-- ---- who is asleep

-- where stations may sleep: in a guarded fabric, by watchpoints that list whom they wake
pub record MaySleep (watchpoints : List Watchpoint) (w : World) : Type 0 where
  pub controls : is_guarded w ≡ true
  pub fabric : IsFabric w
  pub wake : AreWatchpoints w.tree watchpoints

-- a station that isn't awake is idle, and quiet unless something was tried there in vain
pub record AreAsleep (watchpoints : List Watchpoint) (w : World) (awake : Wakeful) : Type 0 where
  pub all : length awake.flags.items ≡ length watchpoints
  pub blocked : length awake.blocked.items ≡ length watchpoints
  pub may : awake.may_sleep ≡ true → MaySleep watchpoints w
  pub asleep : (place : ℕ) → slice_get awake.flags.items place ≡ Some false → awake.may_sleep ≡ true
  pub idle : (place : ℕ) (watchpoint : Watchpoint) → slice_get watchpoints place ≡ Some watchpoint → slice_get awake.flags.items place ≡ Some false → IsIdleAt w watchpoint.station
  pub quiet : (place : ℕ) (watchpoint : Watchpoint) → slice_get watchpoints place ≡ Some watchpoint → slice_get awake.flags.items place ≡ Some false → slice_get awake.blocked.items place ≡ Some false → is_quiet w watchpoint.station ≡ true

-- ---- a visit

abbrev pub receiving_at : Station → List Event
receiving_at (station.Link direction) = Take direction ∷ []
receiving_at s = []

abbrev pub updating_at : Station → List Event
updating_at (station.Link direction) = Credit direction ∷ []
updating_at s = []

-- the events of a station were made in turn: what moved of those that take a packet, and whether one was received and credits
-- were returned
pub record IsVisit (s : Station) (w : World) (moves : Moves) (v : World) : Type 0 where
  pub after_taking : World
  pub after_receiving : World
  pub taken : Sweeps (map (taking s) classes) w moves.taken after_taking
  pub received : Sweeps (receiving_at s) after_taking moves.received after_receiving
  pub updated : Sweeps (updating_at s) after_receiving moves.updated v

abbrev pub has_moved : Moves → Bool
has_moved moves = (moves.taken || moves.received) || moves.updated

-- was something tried in vain?
abbrev pub are_blocked : Moves → Bool
are_blocked moves = not (has_moved moves) && not moves.was_quiet

-- at none of the places
abbrev pub Nowhere : ℕ → Type 0
Nowhere place = ⊥

-- nothing was tried there in vain
abbrev pub IsUnblocked : List Bool → ℕ → Type 0
IsUnblocked blocked place = slice_get blocked place ≡ Some false

-- these places, but those that are spared, were woken if something moved, and no other fell asleep
pub record AreWoken (IsSpared : ℕ → Type 0) (moved : Bool) (places : List ℕ) (old new : List Bool) : Type 0 where
  pub all : length new ≡ length old
  pub still : (place : ℕ) → slice_get new place ≡ Some false → (slice_get old place ≡ Some false) × (moved ≡ true → Contains places place → IsSpared place)

-- none of these moved something that wakes the place
pub record IsUnwoken (watchpoint : Watchpoint) (moves : Moves) (blocked : List Bool) (place : ℕ) : Type 0 where
  pub taking : moves.taken ≡ true → Contains watchpoint.by_taking.items place → ⊥
  pub freeing : moves.taken ≡ true → Contains watchpoint.by_freeing.items place → IsUnblocked blocked place
  pub receiving : moves.received ≡ true → Contains watchpoint.by_receiving.items place → ⊥
  pub updating : moves.updated ≡ true → Contains watchpoint.by_updating.items place → ⊥

-- where nothing moved at this place it fell asleep, if any may; all others that are asleep were so, and weren't woken
pub record IsSettledAt (watchpoint : Watchpoint) (place : ℕ) (moves : Moves) (may_sleep : Bool) (blocked old new : List Bool) : Type 0 where
  pub all : length new ≡ length old
  pub still : (other : ℕ) → slice_get new other ≡ Some false
      → ((other ≡ place) × (has_moved moves ≡ false) × (may_sleep ≡ true)) ⊎ ((other ≡ place → ⊥) × (slice_get old other ≡ Some false) × IsUnwoken watchpoint moves blocked other)

-- ---- a begin

-- the outbox in which what a begin sends waits
abbrev pub outbox_begun : Event → Option Station
outbox_begun (Submit function bytes) = Some (station.FunctionOutbox function)
outbox_begun (Tick function) = Some (station.FunctionOutbox function)
outbox_begun (Mmio domain access) = Some (station.HostOutbox domain)
outbox_begun event = None

-- the watchpoint at the place is the outbox that what happens at the station changes
pub record IsOutboxAt (watchpoints : List Watchpoint) (s : Station) (place : ℕ) : Type 0 where
  pub watchpoint : Watchpoint
  pub at : slice_get watchpoints place ≡ Some watchpoint
  pub changes : changes_outbox s watchpoint.station ≡ true

pub record IsBegunAt (watchpoints : List Watchpoint) (event : Event) (place : ℕ) : Type 0 where
  pub outbox : Station
  pub begun : outbox_begun event ≡ Some outbox
  pub found : IsOutboxAt watchpoints outbox place

-- those were woken that what is taken from the outbox of a begin wakes
pub record IsWokenByBegin (watchpoints : List Watchpoint) (event : Event) (old new : List Bool) : Type 0 where
  pub place : ℕ
  pub begun : IsBegunAt watchpoints event place
  pub woken : AreWoken Nowhere true begun.found.watchpoint.by_taking.items old new

-- or all were
abbrev pub AreWokenBy : List Watchpoint → Event → List Bool → List Bool → Type 0
AreWokenBy watchpoints event old new = IsWokenByBegin watchpoints event old new ⊎ (new ≡ replicate (length old) true)
