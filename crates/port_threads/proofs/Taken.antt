-- What is known of rings and reports once workers were taken apart.
use Rattle.std.proofs.Common.{◌≡◌, ℕ, ◌<◌, ◌≤◌, List, [], map, length, sym, ap, ◌∙◌, subst, arith}
use Rattle.std.specs.Prelude.{slice_index_or}
use Rattle.std.proofs.lemmas.List.{length-map}
use Rattle.std.specs.declared.snapshot.Snapshot.{Snapshot}
use Rattle.monitor.specs.Order.{of_seat}
use Rattle.monitor.specs.Reporting.{QueueSeat, ReporterView}
use Rattle.monitor.specs.declared.queue.Report.{Report}
use Rattle.thread_rings.specs.Wired.{AreWithin, dealt, table_of, tags_of}
use Rattle.thread_rings.specs.declared.ends.Ends.{Ends}
use Rattle.thread_rings.specs.declared.laid.Laid.{Laid}
use Rattle.thread_rings.specs.declared.wire.Wire.{Wire}
use Rattle.port_threads.specs.Fabrics.{AreDealt}
use Rattle.port_threads.specs.Left.{AreReported, reported_by, seat_left}

-- what `undo` asks of ends that were dealt
module _ {T : Type 0} where
  pub within_ends : (n : ℕ) (wires : List Wire) (made : List (Laid T)) (ends : List (Ends T)) → n ≡ length ends → AreDealt wires made (map tags_of ends) → AreWithin n wires
  within_ends n wires made ends is all = subst (λ (n : ℕ). AreWithin n wires) (length-map ends tags_of ∙ sym is) all.within

  pub dealt_ends : (n : ℕ) (wires : List Wire) (made : List (Laid T)) (ends : List (Ends T)) → n ≡ length ends → AreDealt wires made (map tags_of ends) → map tags_of ends ≡ dealt n (table_of made)
  dealt_ends n wires made ends is all = all.ends ∙ ap (λ (n : ℕ). dealt n (table_of made)) (length-map ends tags_of ∙ sym is)

-- the list that the monitor took in the end, where the ports' ends came back in order
pub all_reported : (list : List Report) (ports : List (Snapshot ReporterView)) (seats : List QueueSeat) (ended : List (List Report)) (n : ℕ) → map reported_by ports ≡ ended → map seat_left ports ≡ seats → length seats ≡ n
    → ((k : ℕ) → k < length ended → of_seat k list ≡ slice_index_or ended k []) → ((seat : ℕ) → n ≤ seat → of_seat seat list ≡ []) → AreReported list ports
all_reported list ports seats ended n came sat many all others =
    let m : length ended ≡ length ports = sym (ap length came) ∙ length-map ports reported_by in
    let s : length ports ≡ n = sym (length-map ports seat_left) ∙ ap length sat ∙ many in
    record {
      all = λ k lt. all k (omega (arith, m)) ∙ ap (λ (l : List (List Report)). slice_index_or l k []) (sym came);
      others = λ seat le. others seat (omega (arith, s));
    }
