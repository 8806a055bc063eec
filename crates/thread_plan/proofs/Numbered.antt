-- The wires of a worker by its number are the routes of that worker by its name.
use Rattle.std.proofs.Common.{◌≡◌, ℕ, ◌==◌, Bool, true, false, cond, List, [], ◌∷◌, length, map, get_or, Option, Some, None, refl, sym, ap, ◌∙◌, arith, subst, eqb-true, eq-eqb}
use Rattle.std.specs.Prelude.{All, Contains, filter}
use Rattle.std.specs.List.{cons_option}
use Rattle.std.proofs.lemmas.Option.{same_Some}
use Rattle.std.proofs.lemmas.List.{length-map}
use Rattle.std.proofs.lemmas.List.Elements.{All-head, All-tail}
use Rattle.std.proofs.lemmas.List.Sums.{length-filter}
use Rattle.layout.specs.Laws.{IsPlatform}
use Rattle.layout.specs.Places.{IsWellPlaced}
use Rattle.platform.specs.declared.parts.Switch.{Switch}
use Rattle.platform.specs.Platform.{Platform}
use Rattle.platform.specs.Tree.{internal_bus, is_on_bus}
use Rattle.thread_crew.specs.declared.worker_id.WorkerId.{WorkerId}
use Rattle.thread_crew.specs.declared.worker_id.WorkerId.TheVariants.{Host}
use Rattle.topology.specs.Nodes.{outputs_of_switch, ports_on}
use Rattle.thread_rings.specs.declared.wire.Wire.{Wire}
use Rattle.thread_plan.specs.declared.route.Route.{Route}
use Rattle.thread_plan.specs.Plans.{plan_of, route_of, routes_of, wire_between, wire_of, wires_from, wires_into, wires_of}
use Rattle.thread_plan.specs.Routes.{lanes_of, pair_routes, route, routes_from, routes_into}
use Rattle.thread_plan.specs.Workers.{downstream_worker, number_of, same_worker, workers_of}
use Rattle.thread_plan.proofs.Lanes.{from_port, into_port}
use Rattle.thread_plan.proofs.Named.{IsRoute, number_names, same_is, same_itself, wire_made}
use Rattle.thread_plan.proofs.Routed.{pairs_listed}

wire_from : (places : ℕ) (from to : Option ℕ) (wire : Wire) → wire_between places from to ≡ Some wire → from ≡ Some wire.from
wire_from places (Some from) (Some to) wire e = ap (λ (w : Wire). Some w.from) (same_Some _ _ e)
wire_from places (Some from) None wire e = absurd cc
wire_from places None to wire e = absurd cc

wire_to : (places : ℕ) (from to : Option ℕ) (wire : Wire) → wire_between places from to ≡ Some wire → to ≡ Some wire.to
wire_to places (Some from) (Some to) wire e = ap (λ (w : Wire). Some w.to) (same_Some _ _ e)
wire_to places (Some from) None wire e = absurd cc
wire_to places None to wire e = absurd cc

module _ (workers : List WorkerId) (worker : WorkerId) (n : ℕ) (number : number_of workers worker ≡ Some n) where
  -- a worker has this number exactly where it has this name
  same_test : (other : WorkerId) (m : ℕ) → number_of workers other ≡ Some m → (m == n) ≡ same_worker worker other
  same_test other m is = go (m == n) (same_worker worker other) refl refl
    where
      go : (b c : Bool) → b ≡ (m == n) → c ≡ same_worker worker other → b ≡ c
      go true true e h = refl
      go false false e h = refl
      go true false e h =
          let same : m ≡ n = eqb-true m n (sym e) in
          let one : worker ≡ other = sym (number_names workers worker n number) ∙ ap (λ (k : ℕ). get_or workers k Host) (sym same) ∙ number_names workers other m is in
          let passes : same_worker worker other ≡ true = subst (λ (w : WorkerId). same_worker worker w ≡ true) one (same_itself worker) in
          absurd cc
      go false true e h =
          let one : worker ≡ other = same_is worker other (sym h) in
          let both : ◌≡◌ {A = Option ℕ} (Some m) (Some n) = sym is ∙ ap (number_of workers) (sym one) ∙ number in
          let passes : (m == n) ≡ true = eq-eqb m n (same_Some m n both) in
          absurd cc

  module _ (places : ℕ) (name_of : Route → WorkerId) (number_in : Wire → ℕ) (fits : (r : Route) (wire : Wire) → wire_of workers places r ≡ Some wire → number_of workers (name_of r) ≡ Some (number_in wire)) where
    one_step : (wire : Wire) (wires : List Wire) (r : Route) (rs : List Route) → (number_in wire == n) ≡ same_worker worker (name_of r) → route_of workers wire ≡ r
        → map (route_of workers) (filter (λ w. number_in w == n) wires) ≡ filter (λ s. same_worker worker (name_of s)) rs
        → map (route_of workers) (filter (λ w. number_in w == n) (wire ∷ wires)) ≡ filter (λ s. same_worker worker (name_of s)) (r ∷ rs)
    one_step wire wires r rs test named rest = go (number_in wire == n) (same_worker worker (name_of r)) test
      where
        go : (b c : Bool) → b ≡ c → map (route_of workers) (cond b (wire ∷ filter (λ w. number_in w == n) wires) (filter (λ w. number_in w == n) wires)) ≡ cond c (r ∷ filter (λ s. same_worker worker (name_of s)) rs) (filter (λ s. same_worker worker (name_of s)) rs)
        go true true e = ap (λ (first : Route). first ∷ map (route_of workers) (filter (λ w. number_in w == n) wires)) named ∙ ap (λ (l : List Route). r ∷ l) rest
        go false false e = rest
        go true false e = absurd cc
        go false true e = absurd cc

    kept_named : (rs : List Route) → All (IsRoute workers) rs → map (route_of workers) (filter (λ w. number_in w == n) (wires_of workers places rs)) ≡ filter (λ r. same_worker worker (name_of r)) rs
    kept_named [] all = refl
    kept_named (r ∷ rs) all =
        let made = wire_made workers places r (All-head (IsRoute workers) r rs all) in
        ap (λ (o : Option Wire). map (route_of workers) (filter (λ w. number_in w == n) (cons_option o (wires_of workers places rs)))) made.1
        ∙ one_step made.0 (wires_of workers places rs) r rs (same_test (name_of r) (number_in made.0) (fits r made.0 made.1)) made.2 (kept_named rs (All-tail (IsRoute workers) r rs all))

-- ---- the rings of a port

many_lanes : (platform : Platform) (switch : Switch) → length (lanes_of platform switch) ≡ outputs_of_switch platform.ports switch
many_lanes platform switch =
    let ports = length-filter (is_on_bus (internal_bus switch)) platform.ports in
    let lanes : length (map downstream_worker (ports_on platform.ports (internal_bus switch))) ≡ length (ports_on platform.ports (internal_bus switch)) = length-map (ports_on platform.ports (internal_bus switch)) downstream_worker in
    omega arith

module _ (platform : Platform) (switch : Switch) (worker : WorkerId) (n : ℕ) (laws : IsPlatform platform) (placed : IsWellPlaced platform) (listed : Contains platform.switches switch)
    (within : Contains (lanes_of platform switch) worker) (number : number_of (workers_of platform) worker ≡ Some n) where
  pub named_from : routes_of platform (wires_from n (plan_of platform).pairs) ≡ routes_from (lanes_of platform switch) worker
  named_from =
      kept_named (workers_of platform) worker n number 16 (λ (r : Route). r.from) (λ (w : Wire). w.from) (λ r wire e. wire_from 16 (number_of (workers_of platform) r.from) (number_of (workers_of platform) r.to) wire e) (pair_routes platform) (pairs_listed platform)
      ∙ from_port platform laws placed switch worker listed within

  pub named_into : routes_of platform (wires_into n (plan_of platform).pairs) ≡ routes_into (lanes_of platform switch) worker
  named_into =
      kept_named (workers_of platform) worker n number 16 (λ (r : Route). r.to) (λ (w : Wire). w.to) (λ r wire e. wire_to 16 (number_of (workers_of platform) r.from) (number_of (workers_of platform) r.to) wire e) (pair_routes platform) (pairs_listed platform)
      ∙ into_port platform laws placed switch worker listed within

  pub many_from : length (wires_from n (plan_of platform).pairs) ≡ outputs_of_switch platform.ports switch
  many_from =
      sym (length-map (wires_from n (plan_of platform).pairs) (route_of (workers_of platform))) ∙ ap (λ (l : List Route). length l) named_from
      ∙ length-map (lanes_of platform switch) (route worker) ∙ many_lanes platform switch

  pub many_into : length (wires_into n (plan_of platform).pairs) ≡ outputs_of_switch platform.ports switch
  many_into =
      sym (length-map (wires_into n (plan_of platform).pairs) (route_of (workers_of platform))) ∙ ap (λ (l : List Route). length l) named_into
      ∙ length-map (lanes_of platform switch) (λ from. route from worker) ∙ many_lanes platform switch
