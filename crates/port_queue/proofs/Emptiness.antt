-- How much waits: what the three class queues hold.
use Rattle.std.proofs.Common.{◌≡◌, ℕ, ◌+◌, ◌∷◌, List, [], length, refl, sym, ap, ◌∙◌, inl, inr, arith, zero-add}
use Rattle.std.specs.Prelude.{map}
use Rattle.std.proofs.lemmas.Bool.{cases_lt}
use Rattle.std.proofs.lemmas.List.{length-map}
use Rattle.ordering.specs.Ordering.{Class}
use Rattle.port_queue.specs.Arrivals.{Entry, insert_in, all_in, arrivals, tagged, waiting_of}
use Rattle.port_queue.proofs.Merging.{insert-before, insert-after}

module _ {A : Type 0} where
  length-insert_in : (x : ℕ × A) (ys : List (ℕ × A)) → length (insert_in x ys) ≡ length (x ∷ ys)
  length-insert_in x [] = refl
  length-insert_in x (y ∷ ys) = elim (cases_lt x.0 y.0) [
    | inl before ↦ ap length (insert-before x y ys before)
    | inr after ↦ ap length (insert-after x y ys after) ∙ (let rest = length-insert_in x ys in omega arith)
  ]

  length-all_in : (xs ys : List (ℕ × A)) → length (all_in xs ys) ≡ length xs + length ys
  length-all_in [] ys = sym (zero-add (length ys))
  length-all_in (x ∷ xs) ys = length-insert_in x (all_in xs ys) ∙ (let rest = length-all_in xs ys in omega arith)

module _ {T : Type 0} where
  pub length-waiting : (f : Class → List (Entry T)) → length (waiting_of f) ≡ length (f Class.Posted) + (length (f Class.NonPosted) + length (f Class.Completion))
  length-waiting f =
      let posted = map (tagged Class.Posted) (f Class.Posted) in
      let non_posted = map (tagged Class.NonPosted) (f Class.NonPosted) in
      let completion = map (tagged Class.Completion) (f Class.Completion) in
      let all = length-map (arrivals f) (λ y. y.1) in
      let first = length-all_in posted (all_in non_posted (all_in completion [])) in
      let second = length-all_in non_posted (all_in completion []) in
      let third = length-all_in completion [] in
      let p = length-map (f Class.Posted) (tagged Class.Posted) in
      let n = length-map (f Class.NonPosted) (tagged Class.NonPosted) in
      let c = length-map (f Class.Completion) (tagged Class.Completion) in
      omega arith
