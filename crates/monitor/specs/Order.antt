-- The rule of the queue of violations: of each port, what was taken, and then what waits, is what it reported.
use Rattle.std.specs.Prelude.{◌≡◌, ℕ, ◌<◌, ◌≤◌, ◌==◌, true, false, if◌then◌else◌, List, [], ◌∷◌, ◌++◌, length, slice_index_or}
use mathlib.Core.Option.{Option, some, none}
use lib.ListN.{get_elem?}
use Rattle.monitor.specs.declared.queue.View.{View}
use Rattle.monitor.specs.declared.queue.Report.{Report}

-- the reports of one seat
abbrev pub of_seat : ℕ → List Report → List Report
of_seat seat [] = []
of_seat seat (r ∷ rs) = if r.seat == seat then r ∷ of_seat seat rs else of_seat seat rs

-- of each port that has ended these are the reports, and none is of a seat that no port had
abbrev pub AreAll : ℕ → List (List Report) → List Report → Type 0
AreAll seats ended reports =
    ((k : ℕ) → k < length ended → of_seat k reports ≡ slice_index_or ended k [])
    × ((seat : ℕ) → seats ≤ seat → of_seat seat reports ≡ [])

-- ---- what a pass knows

-- a port's: its seat, and what it reported
abbrev pub port_view : ℕ → List Report → View
port_view seat reported = record { is_port = true; seat = seat; reported = reported; is_monitor = false; seats = 0; taken = []; ended = [] }

-- the monitor's: how many seats it gave, what it took, and what each port that has ended reported, from the first seat on
abbrev pub monitor_view : ℕ → List Report → List (List Report) → View
monitor_view seats taken ended = record { is_port = false; seat = 0; reported = []; is_monitor = true; seats = seats; taken = taken; ended = ended }

-- that of a port that has ended
abbrev pub no_view : View
no_view = record { is_port = false; seat = 0; reported = []; is_monitor = false; seats = 0; taken = []; ended = [] }

-- ---- which passes there may be, where each seat has such a holder, each port sent this, and this was taken

abbrev pub FitsPort : (ℕ → Option ℕ) → (ℕ → List Report) → ℕ → View → Type 0
FitsPort holder sent pass v = v.is_port ≡ true → (holder v.seat ≡ some pass) × (v.reported ≡ sent v.seat)

pub record FitsMonitor (monitor : ℕ) (holder : ℕ → Option ℕ) (sent : ℕ → List Report) (taken : List Report) (pass : ℕ) (v : View) : Type 0 where
  pub is_it : pass ≡ monitor
  pub taken_all : v.taken ≡ taken
  pub later : (seat : ℕ) → v.seats ≤ seat → (holder seat ≡ none) × (sent seat ≡ [])
  pub closed : (k : ℕ) → k < length v.ended → (holder k ≡ none) × (slice_index_or v.ended k [] ≡ sent k)
  pub within : length v.ended ≤ v.seats

pub record Fits (monitor : ℕ) (holder : ℕ → Option ℕ) (sent : ℕ → List Report) (taken : List Report) (pass : ℕ) (v : View) : Type 0 where
  pub as_port : FitsPort holder sent pass v
  pub as_monitor : v.is_monitor ≡ true → FitsMonitor monitor holder sent taken pass v

-- the rule, of what waits, oldest first, and of what each pass knows
abbrev pub IsInOrder : List Report → List View → Type 0
IsInOrder items views = (monitor : ℕ) × (holder : ℕ → Option ℕ) × (sent : ℕ → List Report) × (taken : List Report)
    × ((seat : ℕ) → of_seat seat (taken ++ items) ≡ sent seat)
    × ((pass : ℕ) (v : View) → get_elem? views pass ≡ some v → Fits monitor holder sent taken pass v)
