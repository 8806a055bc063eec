-- Each move keeps the rule of the queue of violations.
use Rattle.std.proofs.Common.{◌≡◌, ◌≢◌, ℕ, zero, suc, ◌+◌, ◌<◌, ◌≤◌, ◌==◌, Bool, true, false, true≢false, cond, List, [], ◌∷◌, ◌++◌, length, set, get_or, sym, refl, ap, ◌∙◌, subst, ⊎_elim, append_assoc, append-nil, arith, length-append, eq-eqb}
use mathlib.Core.Option.{Option, some, none, some-ne-none, some-injective}
use lib.ListN.{get_elem?}
use borrow.Author.Count.{below_more}
use Rattle.std.proofs.lemmas.List.{get_or_append_left}
use Rattle.std.proofs.Math.Seq.{get_or-append_seam}
use Rattle.std.proofs.lemmas.Bool.{eqb-true}
use Rattle.crossbeam_queue.specs.Fifo.{Pushes, Pops, Forks, Merges, Learns}
use Rattle.crossbeam_queue.proofs.Lists.{at_set}
use Rattle.monitor.specs.declared.queue.View.{View}
use Rattle.monitor.specs.declared.queue.Report.{Report}
use Rattle.monitor.specs.Order.{of_seat, AreAll, port_view, monitor_view, no_view, Fits, IsInOrder}

abbrev All : (ℕ → View → Type 0) → List View → Type 0
All F views = (pass : ℕ) (v : View) → get_elem? views pass ≡ some v → F pass v

all_set : (F : ℕ → View → Type 0) (views : List View) (pass : ℕ) (w : View) → F pass w → ((j : ℕ) (u : View) → j ≢ pass → get_elem? views j ≡ some u → F j u) → All F (set views pass w)
all_set F views pass w mine others j u e = ⊎_elim (λ (x : (j ≡ pass) × (w ≡ u)). subst (λ (y : ℕ × View). F y.0 y.1) (λ i. (sym x.0 i, x.1 i)) mine)
    (λ (x : (j ≢ pass) × (get_elem? views j ≡ some u)). others j u x.0 x.1) (at_set views pass j w u e)

-- each element of a list made longer by one
all_snoc : (F : ℕ → View → Type 0) (views : List View) (w : View) → F (length views) w → All F views → All F (views ++ w ∷ [])
all_snoc F [] w mine rest zero u e = let same : w ≡ u = cc in subst (λ (v : View). F 0 v) same mine
all_snoc F [] w mine rest (suc j) u e = absurd (some-ne-none u (sym e))
all_snoc F (v ∷ vs) w mine rest zero u e = rest zero u e
all_snoc F (v ∷ vs) w mine rest (suc j) u e = all_snoc (λ k. F (suc k)) vs w mine (λ k. rest (suc k)) j u e

of_seat-append : (p : ℕ) (xs ys : List Report) → of_seat p (xs ++ ys) ≡ of_seat p xs ++ of_seat p ys
of_seat-append p [] ys = refl
of_seat-append p (x ∷ xs) ys = go (of_seat-append p xs ys) (x.seat == p)
  where
    go : of_seat p (xs ++ ys) ≡ of_seat p xs ++ of_seat p ys → (b : Bool) → cond b (x ∷ of_seat p (xs ++ ys)) (of_seat p (xs ++ ys)) ≡ cond b (x ∷ of_seat p xs) (of_seat p xs) ++ of_seat p ys
    go more true = ap (λ (l : List Report). x ∷ l) more
    go more false = more

-- a report of one port is none of another
of_seat_other : (p : ℕ) (x : Report) (l : List Report) → x.seat ≢ p → l ++ of_seat p (x ∷ []) ≡ l
of_seat_other p x l n = go (x.seat == p) refl
  where
    go : (b : Bool) → x.seat == p ≡ b → l ++ cond b (x ∷ []) [] ≡ l
    go true e = absurd (n (eqb-true _ _ e))
    go false e = append-nil l

of_seat_own : (x : Report) → of_seat x.seat (x ∷ []) ≡ x ∷ []
of_seat_own x = rw (eq-eqb x.seat x.seat refl) refl

-- a port reports
pub reports : (n pass : ℕ) (v : View) (x : Report) → v ≡ port_view x.seat v.reported → Pushes IsInOrder n pass v x (λ w. w ≡ port_view v.seat (v.reported ++ x ∷ []))
reports n pass v x is items views room h at =
    let w : View = port_view v.seat (v.reported ++ x ∷ []) in let holder = h.1 in let sent = h.2 in let taken = h.3 in
    let at_seat : v.seat ≡ x.seat = ap (λ (u : View). u.seat) is in let may : v.is_port ≡ true = ap (λ (u : View). u.is_port) is in
    let mine = (h.5 pass v at).as_port may in let sent' : ℕ → List Report = λ p. sent p ++ of_seat p (x ∷ []) in
    let here : holder x.seat ≡ some pass = subst (λ (p : ℕ). holder p ≡ some pass) at_seat mine.0 in
    let untouched : (p : ℕ) → holder p ≡ none → sent' p ≡ sent p = λ p free. of_seat_other p x (sent p) (λ (e : x.seat ≡ p). some-ne-none pass (sym here ∙ (ap holder e ∙ free))) in (
      w,
      (
        h.0,
        holder,
        sent',
        taken,
        (λ p. ap (of_seat p) (sym (append_assoc taken items (x ∷ []))) ∙ (of_seat-append p (taken ++ items) (x ∷ []) ∙ ap (λ (l : List Report). l ++ of_seat p (x ∷ [])) (h.4 p))),
        all_set (Fits h.0 holder sent' taken) views pass w
            record {
              as_port = λ _. (mine.0, ap (λ (l : List Report). l ++ x ∷ []) mine.1 ∙ (ap (λ (l : List Report). sent v.seat ++ l) (sym (of_seat_own x)) ∙ ap (λ (p : ℕ). sent v.seat ++ of_seat p (x ∷ [])) (sym at_seat)));
              as_monitor = λ p. absurd (true≢false (sym p));
            }
            (λ j u apart e. let f = h.5 j u e in record {
              as_port = λ p. let s = f.as_port p in (s.0, s.1 ∙ sym (of_seat_other u.seat x (sent u.seat) (λ (same : x.seat ≡ u.seat). apart (cc))));
              as_monitor = λ p. let r = f.as_monitor p in record {
                is_it = r.is_it;
                taken_all = r.taken_all;
                later = λ q le. let l = r.later q le in (l.0, untouched q l.0 ∙ l.1);
                closed = λ k lt. let l = r.closed k lt in (l.0, l.1 ∙ sym (untouched k l.0));
                within = r.within;
              };
            }),
      ),
      refl,
    )

-- the monitor takes a report
pub takes : (pass : ℕ) (v : View) → v ≡ monitor_view v.seats v.taken v.ended → Pops IsInOrder pass v (λ x w. w ≡ monitor_view v.seats (v.taken ++ x ∷ []) v.ended)
takes pass v is x items views h at =
    let w : View = monitor_view v.seats (v.taken ++ x ∷ []) v.ended in let may : v.is_monitor ≡ true = ap (λ (u : View). u.is_monitor) is in
    let mine = (h.5 pass v at).as_monitor may in let taken = h.3 ++ x ∷ [] in (
      w,
      (
        h.0,
        h.1,
        h.2,
        taken,
        (λ p. ap (of_seat p) (append_assoc h.3 (x ∷ []) items) ∙ h.4 p),
        all_set (Fits h.0 h.1 h.2 taken) views pass w
            record {
              as_port = λ p. absurd (true≢false (sym p));
              as_monitor = λ _. record { is_it = mine.is_it; taken_all = ap (λ (l : List Report). l ++ x ∷ []) mine.taken_all; later = mine.later; closed = mine.closed; within = mine.within };
            }
            (λ j u apart e. let f = h.5 j u e in record {
              as_port = f.as_port;
              as_monitor = λ p. absurd (apart ((f.as_monitor p).is_it ∙ sym mine.is_it));
            }),
      ),
      refl,
    )

-- what was taken, and then what waits, are all reports of the ports that have ended
pub learns : (pass : ℕ) (v : View) → v.is_monitor ≡ true → Learns IsInOrder pass v (λ items. AreAll v.seats v.ended (v.taken ++ items))
learns pass v may items views h at = let mine = (h.5 pass v at).as_monitor may in (
  (λ k lt. ap (λ (l : List Report). of_seat k (l ++ items)) mine.taken_all ∙ (h.4 k ∙ sym (mine.closed k lt).1)),
  (λ p le. ap (λ (l : List Report). of_seat p (l ++ items)) mine.taken_all ∙ (h.4 p ∙ (mine.later p le).1)),
)

pub begins : IsInOrder [] (monitor_view 0 [] [] ∷ [])
begins = (
  0,
  (λ _. none),
  (λ _. []),
  [],
  (λ p. refl),
  all_snoc (Fits 0 (λ _. none) (λ _. []) []) [] (monitor_view 0 [] [])
      record {
        as_port = λ p. absurd (true≢false (sym p));
        as_monitor = λ _. record { is_it = refl; taken_all = refl; later = λ p le. (refl, refl); closed = λ k lt. absurd (omega arith); within = omega arith };
      }
      (λ j u e. absurd (some-ne-none u (sym e))),
)

unseated : (a n p : ℕ) (o : Option ℕ) → a ≢ p → cond (a == p) (some n) o ≡ o
unseated a n p o apart = go (a == p) refl
  where
    go : (b : Bool) → a == p ≡ b → cond b (some n) o ≡ o
    go true e = absurd (apart (eqb-true _ _ e))
    go false e = refl

emptied : (a p : ℕ) (o : Option ℕ) → o ≡ none → cond (a == p) none o ≡ none
emptied a p o free = go (a == p)
  where
    go : (b : Bool) → cond b none o ≡ none
    go true = refl
    go false = free

kept : (a p : ℕ) (o : Option ℕ) → a ≢ p → cond (a == p) none o ≡ o
kept a p o apart = go (a == p) refl
  where
    go : (b : Bool) → a == p ≡ b → cond b none o ≡ o
    go true e = absurd (apart (eqb-true _ _ e))
    go false e = refl

-- what holds of each index below the length, and of the length, holds below the length of a list longer by one
more_ended : {X : Type 0} (xs : List X) (x : X) (k : ℕ) → k < length (xs ++ x ∷ []) → (P : ℕ → Type 0) → ((i : ℕ) → i < length xs → P i) → P (length xs) → P k
more_ended xs x k lt P below here = below_more P (length xs) below here k (omega (arith, length-append xs (x ∷ [])))

-- the monitor gives a pass to one port more
pub admits : (pass : ℕ) (v : View) → v ≡ monitor_view v.seats v.taken v.ended → Forks IsInOrder pass v (monitor_view (v.seats + 1) v.taken v.ended) (port_view v.seats [])
admits pass v is items views h at =
    let left : View = monitor_view (v.seats + 1) v.taken v.ended in let right : View = port_view v.seats [] in let vs : List View = set views pass left in
    let may : v.is_monitor ≡ true = ap (λ (u : View). u.is_monitor) is in let mine = (h.5 pass v at).as_monitor may in let none_yet = mine.later v.seats (omega arith) in
    let holder' : ℕ → Option ℕ = λ p. cond (v.seats == p) (some (length vs)) (h.1 p) in
    let free : (p : ℕ) → v.seats ≢ p → holder' p ≡ h.1 p = λ p n. unseated v.seats (length vs) p (h.1 p) n in (
      h.0,
      holder',
      h.2,
      h.3,
      h.4,
      all_snoc (Fits h.0 holder' h.2 h.3) vs right
          record {
            as_port = λ _. (rw (eq-eqb v.seats v.seats refl) refl, sym none_yet.1);
            as_monitor = λ p. absurd (true≢false (sym p));
          }
          (all_set (Fits h.0 holder' h.2 h.3) views pass left
          record {
            as_port = λ p. absurd (true≢false (sym p));
            as_monitor = λ _. record {
              is_it = mine.is_it;
              taken_all = mine.taken_all;
              later = λ p le. let l = mine.later p (omega arith) in (free p (λ (e : v.seats ≡ p). omega arith) ∙ l.0, l.1);
              closed = λ k lt. let l = mine.closed k lt in let o = mine.within in (free k (λ (e : v.seats ≡ k). omega arith) ∙ l.0, l.1);
              within = let o = mine.within in omega arith;
            };
          }
          (λ j u apart e. let f = h.5 j u e in record {
            as_port = λ p. let s = f.as_port p in (free u.seat (λ (same : v.seats ≡ u.seat). some-ne-none j (sym s.0 ∙ (ap h.1 (sym same) ∙ none_yet.0))) ∙ s.0, s.1);
            as_monitor = λ p. absurd (apart ((f.as_monitor p).is_it ∙ sym mine.is_it));
          })),
    )

-- the monitor takes back the pass of the next port, which has ended
pub closes : (pass : ℕ) (v : View) (other : ℕ) (u : View) → v ≡ monitor_view v.seats v.taken v.ended → u ≡ port_view (length v.ended) u.reported → Merges IsInOrder pass v other u (monitor_view v.seats v.taken (v.ended ++ u.reported ∷ [])) no_view
closes pass v other u is ends items views h at two at' =
    let both : View = monitor_view v.seats v.taken (v.ended ++ u.reported ∷ []) in let vs : List View = set views pass both in
    let was : get_elem? views other ≡ some u = ⊎_elim (λ x. absurd (two x.0)) (λ x. x.1) (at_set views pass other both u at') in
    let mine = (h.5 pass v at).as_monitor (ap (λ (w : View). w.is_monitor) is) in let theirs = (h.5 other u was).as_port (ap (λ (w : View). w.is_port) ends) in
    let seat_is : u.seat ≡ length v.ended = ap (λ (w : View). w.seat) ends in
    let holder' : ℕ → Option ℕ = λ p. cond (u.seat == p) none (h.1 p) in
    let gone : (p : ℕ) → h.1 p ≡ none → holder' p ≡ none = λ p free. emptied u.seat p (h.1 p) free in
    let before : v.seats ≤ u.seat → ⊥ = λ le. some-ne-none other (sym theirs.0 ∙ (mine.later u.seat le).0) in
    let Now : ℕ → View → Type 0 = λ j y. j ≢ other → Fits h.0 holder' h.2 h.3 j y in
    let now : All Now vs = all_set Now views pass both
    (λ _. record {
      as_port = λ p. absurd (true≢false (sym p));
      as_monitor = λ _. record {
        is_it = mine.is_it;
        taken_all = mine.taken_all;
        later = λ p le. let l = mine.later p le in (gone p l.0, l.1);
        closed = λ k lt. more_ended v.ended u.reported k lt (λ i. (holder' i ≡ none) × (get_or (v.ended ++ u.reported ∷ []) i [] ≡ h.2 i))
            (λ i low. let l = mine.closed i low in (gone i l.0, get_or_append_left v.ended (u.reported ∷ []) [] i low ∙ l.1))
            (rw (← seat_is) (rw (eq-eqb u.seat u.seat refl) refl, (rw seat_is (get_or-append_seam v.ended u.reported [] []) ∙ theirs.1)));
        within = let o = mine.within in omega (arith, length-append v.ended (u.reported ∷ []));
      };
    })
    (λ j y apart e off. let f = h.5 j y e in record {
      as_port = λ p. let s = f.as_port p in (kept u.seat y.seat (h.1 y.seat) (λ (same : u.seat ≡ y.seat). off (some-injective j other (sym s.0 ∙ (ap h.1 (sym same) ∙ theirs.0)))) ∙ s.0, s.1);
      as_monitor = λ p. absurd (apart ((f.as_monitor p).is_it ∙ sym mine.is_it));
    }) in
    (h.0, holder', h.2, h.3, h.4, all_set (Fits h.0 holder' h.2 h.3) vs other no_view record { as_port = λ p. absurd (true≢false (sym p)); as_monitor = λ p. absurd (true≢false (sym p)) } (λ j y apart e. now j y e apart))

-- the monitor's view, by its own parts
pub monitor_view_of : (v : View) (n : ℕ) (taken : List Report) → v ≡ monitor_view n taken v.ended → v ≡ monitor_view v.seats v.taken v.ended
monitor_view_of v n taken e = e ∙ sym (λ i. monitor_view (e i).seats (e i).taken v.ended)
