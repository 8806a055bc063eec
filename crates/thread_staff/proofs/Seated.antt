-- The seats of workers as they are taken on.
use Rattle.std.proofs.Common.{◌≡◌, ℕ, ◌+◌, List, [], ◌∷◌, ◌++◌, Option, Some, None, length, sym, ap, ◌∙◌, subst, arith, add-zero, append-nil}
use Rattle.std.specs.List.{cons_option}
use Rattle.std.proofs.lemmas.List.{length-append}
use Rattle.std.proofs.lemmas.List.Elements.{filter_map-append}
use Rattle.atomic_table.specs.Seated.{TableId}
use Rattle.monitor.specs.Reporting.{QueueSeat}
use Rattle.thread_staff.specs.Watched.{MonitorKept}
use Rattle.thread_staff.specs.Kept.{PostKept}
use Rattle.thread_staff.specs.Seats.{AreSeated, AreWatched, seats_of}

seats_more : (posts : List PostKept) (post : PostKept) (seat : Option QueueSeat) → post.seat ≡ seat → seats_of (posts ++ post ∷ []) ≡ seats_of posts ++ cons_option seat []
seats_more posts post seat is =
    filter_map-append (λ (p : PostKept). p.seat) posts (post ∷ []) ∙ ap (λ (s : Option QueueSeat). seats_of posts ++ cons_option s []) is

seated_more : (queue : TableId) (n : ℕ) (seats : List QueueSeat) (seat : QueueSeat) → AreSeated queue n seats → seat.queue ≡ queue → seat.seat ≡ n + length seats → AreSeated queue n (seats ++ seat ∷ [])
seated_more queue n [] seat all of_queue next = (of_queue, next ∙ add-zero n, tt)
seated_more queue n (first ∷ seats) seat all of_queue next =
    let later : seat.seat ≡ n + 1 + length seats = omega (next, arith) in (all.0, all.1, seated_more queue (n + 1) seats seat all.2 of_queue later)

-- one more who has no seat
pub watched_same : (monitor : MonitorKept) (posts more : List PostKept) (post : PostKept) → more ≡ posts ++ post ∷ [] → post.seat ≡ None → AreWatched monitor posts → AreWatched monitor more
watched_same monitor posts more post grown none all =
    let same : seats_of more ≡ seats_of posts = ap seats_of grown ∙ seats_more posts post None none ∙ append-nil (seats_of posts) in
    record {
      none = all.none;
      seated = subst (λ (l : List QueueSeat). AreSeated monitor.queue 0 l) (sym same) all.seated;
      seats = ap length same ∙ all.seats;
    }

-- one more at the next seat, which the monitor just gave
pub watched_more : (monitor monitor' : MonitorKept) (posts more : List PostKept) (post : PostKept) (seat : QueueSeat) → more ≡ posts ++ post ∷ [] → post.seat ≡ Some seat → seat.queue ≡ monitor.queue
    → seat.seat ≡ monitor.seats → monitor'.queue ≡ monitor.queue → monitor'.ended ≡ monitor.ended → monitor'.seats ≡ monitor.seats + 1 → AreWatched monitor posts → AreWatched monitor' more
watched_more monitor monitor' posts more post seat grown some of_queue next same_queue same_ended one_more all =
    let now : seats_of more ≡ seats_of posts ++ seat ∷ [] = ap seats_of grown ∙ seats_more posts post (Some seat) some in
    let last : seat.seat ≡ 0 + length (seats_of posts) = let n = all.seats in omega (n, next, arith) in
    record {
      none = same_ended ∙ all.none;
      seated = subst (λ (x : TableId). AreSeated x 0 (seats_of more)) (sym same_queue)
          (subst (λ (l : List QueueSeat). AreSeated monitor.queue 0 l) (sym now) (seated_more monitor.queue 0 (seats_of posts) seat all.seated of_queue last));
      seats = ap length now ∙ (let n = all.seats in let l = length-append (seats_of posts) (seat ∷ []) in omega (n, l, one_more, arith));
    }
