-- A wire is made from two numbers that were found, and so it joins two of the workers.
use Rattle.std.proofs.Common.{◌≡◌, ℕ, ◌<◌, List, [], ◌∷◌, length, Option, Some, None, refl, sym, ap, ◌∙◌, subst}
use Rattle.std.specs.Prelude.{All}
use Rattle.std.specs.List.{cons_option}
use Rattle.std.proofs.lemmas.Option.{same_Some}
use Rattle.std.proofs.lemmas.List.Elements.{All-cons, All-nil}
use Rattle.std.proofs.lemmas.List.Quantifiers.{position-Some}
use Rattle.platform.specs.Platform.{Platform}
use Rattle.thread_crew.specs.declared.worker_id.WorkerId.{WorkerId}
use Rattle.thread_rings.specs.declared.wire.Wire.{Wire}
use Rattle.thread_rings.specs.Wired.{AreWithin}
use Rattle.thread_plan.specs.declared.route.Route.{Route}
use Rattle.thread_plan.specs.Plans.{IsPlan, plan_of, wire_between, wire_of, wires_of}
use Rattle.thread_plan.specs.Routes.{credit_routes, link_routes, pair_routes}
use Rattle.thread_plan.specs.Workers.{number_of, same_worker, workers_of}

-- this wire joins two of so many workers
abbrev Joins : ℕ → Wire → Type 0
Joins count wire = (wire.from < count) × (wire.to < count)

abbrev IsBelow : ℕ → Option ℕ → Type 0
IsBelow count number = (n : ℕ) → number ≡ Some n → n < count

pub number_within : (workers : List WorkerId) (worker : WorkerId) → IsBelow (length workers) (number_of workers worker)
number_within workers worker n e = (position-Some (same_worker worker) workers n worker e).0

wire_joins : (count places : ℕ) (from to : Option ℕ) (wire : Wire) → IsBelow count from → IsBelow count to → wire_between places from to ≡ Some wire → Joins count wire
wire_joins count places (Some from) (Some to) wire one other e = subst (λ (w : Wire). Joins count w) (same_Some _ _ e) (one from refl, other to refl)
wire_joins count places (Some from) None wire one other e = absurd cc
wire_joins count places None to wire one other e = absurd cc

-- one wire more, if it was made
pub one_more : {X : Type 0} (P : X → Type 0) (made : Option X) (xs : List X) → ((x : X) → made ≡ Some x → P x) → All P xs → All P (cons_option made xs)
one_more P None xs here rest = rest
one_more P (Some x) xs here rest = All-cons P x xs (here x refl) rest

pub wires_within : (workers : List WorkerId) (places : ℕ) (routes : List Route) → AreWithin (length workers) (wires_of workers places routes)
wires_within workers places [] = All-nil (Joins (length workers))
wires_within workers places (r ∷ rs) =
    one_more (Joins (length workers)) (wire_of workers places r) (wires_of workers places rs)
    (λ wire e. wire_joins (length workers) places (number_of workers r.from) (number_of workers r.to) wire (number_within workers r.from) (number_within workers r.to) e)
    (wires_within workers places rs)

-- the same of workers that were lent
pub made_within : (workers lent : List WorkerId) (places : ℕ) (routes : List Route) (wires : List Wire) → lent ≡ workers → wires ≡ wires_of lent places routes → AreWithin (length workers) wires
made_within workers lent places routes wires same made =
    subst (λ (w : List Wire). AreWithin (length workers) w) (sym (made ∙ ap (λ (l : List WorkerId). wires_of l places routes) same)) (wires_within workers places routes)

pub plan_within : (platform : Platform) → IsPlan (plan_of platform)
plan_within platform = record {
  links = wires_within (workers_of platform) 381 (link_routes platform);
  credits = wires_within (workers_of platform) 16 (credit_routes platform);
  pairs = wires_within (workers_of platform) 16 (pair_routes platform);
}
