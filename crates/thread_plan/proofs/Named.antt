-- Read by the names of the workers, the wires are the routes that they were made for.
use Rattle.std.proofs.Common.{◌≡◌, ℕ, true, List, [], ◌∷◌, map, get_or, Option, Some, refl, sym, ap, ◌∙◌, eqb-true, eq-eqb}
use Rattle.std.specs.Prelude.{All, Contains}
use Rattle.std.specs.List.{cons_option, position_or_len}
use Rattle.std.proofs.lemmas.List.Elements.{All-head, All-tail}
use Rattle.std.proofs.lemmas.List.Quantifiers.{position-Some}
use Rattle.thread_crew.specs.declared.worker_id.WorkerId.{WorkerId}
use Rattle.thread_crew.specs.declared.worker_id.WorkerId.TheVariants.{Port, Function, Host, Monitor}
use Rattle.thread_rings.specs.declared.wire.Wire.{Wire}
use Rattle.topology.proofs.Members.{listed}
use Rattle.thread_plan.specs.declared.route.Route.{Route}
use Rattle.thread_plan.specs.Plans.{route_of, wire_between, wire_of, wires_of}
use Rattle.thread_plan.specs.Routes.{route}
use Rattle.thread_plan.specs.Workers.{number_of, same_worker}

-- ---- names

pub same_itself : (worker : WorkerId) → same_worker worker worker ≡ true
same_itself (Port id) = eq-eqb id id refl
same_itself (Function id) = eq-eqb id id refl
same_itself Host = refl
same_itself Monitor = refl

pub same_is : (one other : WorkerId) → same_worker one other ≡ true → one ≡ other
same_is (Port one) (Port other) e = ap Port (eqb-true one other e)
same_is (Port one) (Function other) e = absurd cc
same_is (Port one) Host e = absurd cc
same_is (Port one) Monitor e = absurd cc
same_is (Function one) (Port other) e = absurd cc
same_is (Function one) (Function other) e = ap Function (eqb-true one other e)
same_is (Function one) Host e = absurd cc
same_is (Function one) Monitor e = absurd cc
same_is Host (Port other) e = absurd cc
same_is Host (Function other) e = absurd cc
same_is Host Host e = refl
same_is Host Monitor e = absurd cc
same_is Monitor (Port other) e = absurd cc
same_is Monitor (Function other) e = absurd cc
same_is Monitor Host e = absurd cc
same_is Monitor Monitor e = refl

-- the worker that has a number is the one whose number it is
pub number_names : (workers : List WorkerId) (worker : WorkerId) (n : ℕ) → number_of workers worker ≡ Some n → get_or workers n Host ≡ worker
number_names workers worker n e = sym (same_is worker (get_or workers n Host) (position-Some (same_worker worker) workers n Host e).1)

pub number_found : (workers : List WorkerId) (worker : WorkerId) → Contains workers worker → (n : ℕ) × (number_of workers worker ≡ Some n)
number_found workers worker within = (
  position_or_len (same_worker worker) workers,
  listed (same_worker worker) workers within.0 worker within.1 (ap (same_worker worker) within.2 ∙ same_itself worker),
)

-- ---- routes

-- both ends are workers
pub record IsRoute (workers : List WorkerId) (r : Route) : Type 0 where
  pub from : Contains workers r.from
  pub to : Contains workers r.to

pub wire_made : (workers : List WorkerId) (places : ℕ) (r : Route) → IsRoute workers r → (wire : Wire) × (wire_of workers places r ≡ Some wire) × (route_of workers wire ≡ r)
wire_made workers places r is =
    let from = number_found workers r.from is.from in
    let to = number_found workers r.to is.to in (
      record { from = from.0; to = to.0; places = places },
      ap (λ (n : Option ℕ). wire_between places n (number_of workers r.to)) from.1 ∙ ap (λ (n : Option ℕ). wire_between places (Some from.0) n) to.1,
      ap (λ (w : WorkerId). route w (get_or workers to.0 Host)) (number_names workers r.from from.0 from.1) ∙ ap (λ (w : WorkerId). route r.from w) (number_names workers r.to to.0 to.1),
    )

pub wires_named : (workers : List WorkerId) (places : ℕ) (routes : List Route) → All (IsRoute workers) routes → map (route_of workers) (wires_of workers places routes) ≡ routes
wires_named workers places [] all = refl
wires_named workers places (r ∷ rs) all =
    let made = wire_made workers places r (All-head (IsRoute workers) r rs all) in
    ap (λ (o : Option Wire). map (route_of workers) (cons_option o (wires_of workers places rs))) made.1
    ∙ ap (λ (first : Route). first ∷ map (route_of workers) (wires_of workers places rs)) made.2
    ∙ ap (λ (rest : List Route). r ∷ rest) (wires_named workers places rs (All-tail (IsRoute workers) r rs all))
