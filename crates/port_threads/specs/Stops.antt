-- What a stop leaves of a fabric.
use Rattle.std.specs.Prelude.{◌≡◌, ◌↔◌, IsTrue, length, map, true, vec_len, ⊤}
use Rattle.fab_types.specs.declared.faults.running.StopFault.{StopFault}
use Rattle.fab_types.specs.declared.faults.running.StopFault.TheVariants.{NoMemory, Unbalanced}
use Rattle.port_threads.specs.Fabrics.{FabricView, posts_in}
use Rattle.thread_staff.specs.Marks.{mark_left, mark_of}
use Rattle.port_threads.specs.Left.{AddsUp, AreBack, AreReported, seat_left}
use Rattle.thread_staff.specs.Seats.{seats_of}
use Rattle.port_threads.specs.declared.stopped.Stopped.{Stopped}

pub record Leaves (f : FabricView) (s : Stopped) : Type 0 where
  pub links : AreBack f.tables.links f.links s.links
  pub credits : AreBack f.tables.credits f.credits s.credits
  pub pairs : AreBack f.tables.pairs f.pairs s.pairs
  pub ports : map seat_left s.ports.items ≡ seats_of (posts_in f)
  pub reports : AreReported s.list.items s.ports.items
  pub remains : map mark_left s.remains.items ≡ map mark_of (posts_in f)
  pub domains : vec_len s.domains ≡ length f.numbers
  pub counted : IsTrue s.count.is_balanced ↔ AddsUp s

-- why nothing is given: memory was refused; or, where all five controls are set on each port, what was left doesn't add up
abbrev pub IsStopFault : FabricView → StopFault → Type 0
IsStopFault f NoMemory = ⊤
IsStopFault f Unbalanced = (f.guarded ≡ true) × ((s : Stopped) × Leaves f s × (AddsUp s → ⊥))
