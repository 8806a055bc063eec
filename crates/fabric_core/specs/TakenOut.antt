-- A run without the events of other domains (PCIe 4.0, 6.12): which events of a list are left, and what a domain has of a
-- run of the list and of a run of these.
use Rattle.std.specs.Prelude.{◌≡◌, ◌≢◌, ⊤, ℕ, Bool, true, false, ◌&&◌, ◌||◌, IsTrue, List, [], ◌∷◌, All, filter, Option, Some, None, if◌then◌else◌}
use Rattle.fab_types.specs.declared.outcome.Outcome.{Outcome}
use Rattle.fab_types.specs.declared.outcome.Outcome.TheVariants.{Moved, Idle, Refused, NoMemory}
use Rattle.fab_types.specs.declared.violation.Violation.{Violation}
use Rattle.fabric_core.specs.declared.event.Event.{Event}
use Rattle.fabric_core.specs.declared.event.Event.TheVariants.{Credit}
use Rattle.fabric_core.specs.Events.{effect}
use Rattle.fabric_core.specs.Isolation.{domain_of_function, is_event_of, is_number, number_of, part}
use Rattle.fabric_core.specs.Runs.{Run}
use Rattle.fabric_core.specs.World.{World, is_guarded}

-- ---- which events are left

abbrev pub is_moved : Outcome → Bool
is_moved Moved = true
is_moved Idle = false
is_moved (Refused fault) = false
is_moved NoMemory = false

abbrev pub returns_credits : Event → Bool
returns_credits (Credit direction) = true
returns_credits event = false

abbrev pub or_same : World → Option World → World
or_same w None = w
or_same w (Some new) = new

-- the world after an event that had this outcome
abbrev pub after : World → Event → Outcome → World
after w event outcome = if is_moved outcome then or_same w (effect w event) else w

-- An event is left where it returns credits, or is one of the domain and moved
abbrev pub is_left : ℕ → World → Event → Outcome → Bool
is_left d w event outcome = returns_credits event || (is_event_of w d event && is_moved outcome)

-- of the events of a run those that are left, in their order
abbrev pub events_left : ℕ → World → List Event → List Outcome → List Event
events_left d w [] outcomes = []
events_left d w (event ∷ events) [] = []
events_left d w (event ∷ events) (outcome ∷ outcomes) =
    if is_left d w event outcome then event ∷ events_left d (after w event outcome) events outcomes
    else events_left d (after w event outcome) events outcomes

-- ---- what a domain has of a fabric

-- did a function of the domain send what was refused?
abbrev pub is_by : World → ℕ → Violation → Bool
is_by w d violation = is_number d (number_of (domain_of_function w violation.sender))

-- the violations by its functions, in their order
abbrev pub violations_by : ℕ → World → List Violation
violations_by d w = filter (is_by w d) w.violations

-- it has the same of two fabrics: its state with its journal, the place of each of its packets, and its violations
pub record HasSame (d : ℕ) (one other : World) : Type 0 where
  pub part : part d other ≡ part d one
  pub violations : violations_by d other ≡ violations_by d one

-- ---- the two runs

abbrev pub HasMemory : Outcome → Type 0
HasMemory outcome = outcome ≢ NoMemory

-- each of these events moved; but one that returns credits may find none to return
abbrev pub HaveMoved : List Event → List Outcome → Type 0
HaveMoved [] [] = ⊤
HaveMoved (event ∷ events) (outcome ∷ outcomes) = IsTrue (returns_credits event || is_moved outcome) × HaveMoved events outcomes
HaveMoved [] (outcome ∷ outcomes) = ⊥
HaveMoved (event ∷ events) [] = ⊥

-- A run of what is left, from the same start and without want of memory: each event of the domain moves in it, and what the
-- domain has of it is what it has of the first run. So the domain can't tell the others from none
abbrev pub CannotTell : ℕ → World → List Event → List Outcome → World → Type 0
CannotTell d start events outcomes first =
    (outcomes' : List Outcome) (second : World) → Run start (events_left d start events outcomes) outcomes' second → All HasMemory outcomes'
    → HaveMoved (events_left d start events outcomes) outcomes' × HasSame d first second

-- and there is such a run
abbrev pub CanBeLeft : ℕ → World → List Event → List Outcome → Type 0
CanBeLeft d start events outcomes =
    (outcomes' : List Outcome) × (second : World) × Run start (events_left d start events outcomes) outcomes' second × All HasMemory outcomes'

-- no domain can tell, of any run from here
pub record NoneCanTell (start : World) : Type 0 where
  pub taken_out : (events : List Event) (outcomes : List Outcome) (first : World) → Run start events outcomes first → (d : ℕ) → CannotTell d start events outcomes first

-- a run of a list, and a run of what is left of it; in a guarded fabric the domain has the same of both
pub record AreBothRuns (d : ℕ) (start : World) (events : List Event) (first second : World) : Type 0 where
  pub outcomes : List Outcome
  pub run : Run start events outcomes first
  pub outcomes_left : List Outcome
  pub run_left : Run start (events_left d start events outcomes) outcomes_left second
  pub memory : All HasMemory outcomes_left
  pub moved : is_guarded start ≡ true → HaveMoved (events_left d start events outcomes) outcomes_left
  pub same : is_guarded start ≡ true → HasSame d first second
