-- Of the routes between ports those from a port, and those into it, are one for each port of its switch.
use Rattle.std.proofs.Common.{◌≡◌, ℕ, ◌+◌, ◌*◌, ◌/◌, ◌==◌, ◌⊎◌, inl, inr, Bool, true, false, cond, List, [], ◌∷◌, map, refl, sym, ap, ◌∙◌, arith, subst, eqb-true, eq-eqb}
use Rattle.std.specs.Prelude.{not, Contains, filter}
use Rattle.std.specs.List.{list_all}
use Rattle.std.proofs.lemmas.List.Concat.{flat_map_single}
use Rattle.std.proofs.lemmas.List.Sums.{list_all-from_AllPass}
use Rattle.fab_types.specs.Id.{bus_of}
use Rattle.layout.specs.Laws.{IsPlatform, are_apart, each_pair}
use Rattle.layout.specs.Places.{IsWellPlaced, have_other_ids}
use Rattle.platform.proofs.Bools.{and-both, and-first}
use Rattle.platform.specs.declared.parts.DownstreamPort.{DownstreamPort}
use Rattle.platform.specs.declared.parts.Switch.{Switch}
use Rattle.platform.specs.Platform.{Platform}
use Rattle.platform.specs.Tree.{internal_bus, is_on_bus}
use Rattle.thread_crew.specs.declared.worker_id.WorkerId.{WorkerId}
use Rattle.thread_crew.specs.declared.worker_id.WorkerId.TheVariants.{Port}
use Rattle.topology.specs.Nodes.{ports_on}
use Rattle.topology.proofs.Members.{cases_contained, kept_from, mapped_from, pairs_kept, pairs_mapped}
use Rattle.topology.proofs.Standing.{ids_apart, switch_id}
use Rattle.thread_plan.specs.declared.route.Route.{Route}
use Rattle.thread_plan.specs.Routes.{lanes_of, pair_routes, route, routes_between, routes_from, routes_into, switch_routes}
use Rattle.thread_plan.specs.Workers.{downstream_worker, same_worker, upstream_worker}
use Rattle.thread_plan.proofs.Named.{same_is, same_itself}
use Rattle.thread_plan.proofs.Parts.{all_pass, both_tests, empty_parts, filter_parts, none_pass, one_part, same_parts}
use Rattle.thread_plan.proofs.Routed.{all_of}

abbrev pub are_others : WorkerId → WorkerId → Bool
are_others one other = not (same_worker one other)

fails : (b : Bool) → (b ≡ true → ⊥) → b ≡ false
fails true h = absurd (h refl)
fails false h = refl

pub not_fails : (b : Bool) → (b ≡ true → ⊥) → not b ≡ true
not_fails true h = absurd (h refl)
not_fails false h = refl

pub other_fails : (worker other : WorkerId) → (worker ≡ other → ⊥) → same_worker worker other ≡ false
other_fails worker other apart = fails (same_worker worker other) (λ e. apart (same_is worker other e))

-- workers that are apart are two
pub two_workers : (worker other : WorkerId) → (are_others worker other ≡ true) ⊎ (are_others other worker ≡ true) → worker ≡ other → ⊥
two_workers worker other (inl apart) same = both_tests (same_worker worker other) (subst (λ (w : WorkerId). same_worker worker w ≡ true) same (same_itself worker)) apart
two_workers worker other (inr apart) same = both_tests (same_worker other worker) (subst (λ (w : WorkerId). same_worker w worker ≡ true) same (same_itself worker)) apart

abbrev is_from : WorkerId → Route → Bool
is_from worker r = same_worker worker r.from

abbrev is_into : WorkerId → Route → Bool
is_into worker r = same_worker worker r.to

-- ---- one switch

module _ (worker : WorkerId) (lanes : List WorkerId) where
  from_other : (other : WorkerId) → (worker ≡ other → ⊥) → filter (is_from worker) (routes_from lanes other) ≡ []
  from_other other apart = none_pass (is_from worker) (route other) lanes (λ to within. other_fails worker other apart)

  from_lanes : each_pair are_others lanes ≡ true → Contains lanes worker → filter (is_from worker) (routes_between lanes) ≡ routes_from lanes worker
  from_lanes apart within =
      filter_parts (is_from worker) (routes_from lanes) lanes
      ∙ one_part are_others (λ (from : WorkerId). filter (is_from worker) (routes_from lanes from)) lanes worker apart within (λ other listed is. from_other other (two_workers worker other is))
      ∙ all_pass (is_from worker) (route worker) lanes (λ to. same_itself worker)

  from_none : (Contains lanes worker → ⊥) → filter (is_from worker) (routes_between lanes) ≡ []
  from_none absent =
      filter_parts (is_from worker) (routes_from lanes) lanes
      ∙ empty_parts (λ (from : WorkerId). filter (is_from worker) (routes_from lanes from)) lanes (λ other listed. from_other other (λ same. absent (subst (Contains lanes) (sym same) listed)))

  into_one : (from : WorkerId) → each_pair are_others lanes ≡ true → Contains lanes worker → filter (is_into worker) (routes_from lanes from) ≡ route from worker ∷ []
  into_one from apart within =
      ap (filter (is_into worker)) (sym (flat_map_single (route from) lanes))
      ∙ filter_parts (is_into worker) (λ (to : WorkerId). route from to ∷ []) lanes
      ∙ one_part are_others (λ (to : WorkerId). filter (is_into worker) (route from to ∷ [])) lanes worker apart within
      (λ other listed is. ap (λ (b : Bool). cond b (route from other ∷ []) []) (other_fails worker other (two_workers worker other is)))
      ∙ ap (λ (b : Bool). cond b (route from worker ∷ []) []) (same_itself worker)

  into_lanes : each_pair are_others lanes ≡ true → Contains lanes worker → filter (is_into worker) (routes_between lanes) ≡ routes_into lanes worker
  into_lanes apart within =
      filter_parts (is_into worker) (routes_from lanes) lanes
      ∙ same_parts (λ (from : WorkerId). filter (is_into worker) (routes_from lanes from)) (λ (from : WorkerId). route from worker ∷ []) lanes (λ from listed. into_one from apart within)
      ∙ flat_map_single (λ (from : WorkerId). route from worker) lanes

  into_none : (Contains lanes worker → ⊥) → filter (is_into worker) (routes_between lanes) ≡ []
  into_none absent =
      filter_parts (is_into worker) (routes_from lanes) lanes
      ∙ empty_parts (λ (from : WorkerId). filter (is_into worker) (routes_from lanes from)) lanes
      (λ from one. none_pass (is_into worker) (route from) lanes (λ to listed. other_fails worker to (λ same. absent (subst (Contains lanes) (sym same) listed))))

-- ---- the ports of a switch

one_bus : (one other : ℕ) → one ≡ one / 256 * 256 → other ≡ other / 256 * 256 → one / 256 + 1 ≡ other / 256 + 1 → one ≡ other
one_bus one other is also same = omega (arith, is, also, same)

module _ (platform : Platform) (laws : IsPlatform platform) where
  -- a lane's port is the upstream port, or a downstream port on the internal bus
  abbrev IsLane : Switch → WorkerId → Type 0
  IsLane switch worker = (upstream_worker switch ≡ worker) ⊎ ((port : DownstreamPort) × Contains platform.ports port × (bus_of port.id ≡ internal_bus switch) × (downstream_worker port ≡ worker))

  lane_cases : (switch : Switch) (worker : WorkerId) → Contains (lanes_of platform switch) worker → IsLane switch worker
  lane_cases switch worker within = go (cases_contained (upstream_worker switch) worker (map downstream_worker (ports_on platform.ports (internal_bus switch))) within)
    where
      go : (upstream_worker switch ≡ worker) ⊎ Contains (map downstream_worker (ports_on platform.ports (internal_bus switch))) worker → IsLane switch worker
      go (inl is) = inl is
      go (inr down) =
          let port = mapped_from downstream_worker (ports_on platform.ports (internal_bus switch)) worker down in
          let on = kept_from (is_on_bus (internal_bus switch)) platform.ports port.0 port.1 in
          inr (port.0, on.0, eqb-true _ _ on.1, port.2)

  lanes_apart : (switch : Switch) → Contains platform.switches switch → each_pair are_others (lanes_of platform switch) ≡ true
  lanes_apart switch within =
      and-both (list_all (are_others (upstream_worker switch)) (map downstream_worker (ports_on platform.ports (internal_bus switch)))) (each_pair are_others (map downstream_worker (ports_on platform.ports (internal_bus switch))))
      (list_all-from_AllPass (are_others (upstream_worker switch)) (map downstream_worker (ports_on platform.ports (internal_bus switch)))
      (all_of (λ (w : WorkerId). are_others (upstream_worker switch) w ≡ true) downstream_worker (ports_on platform.ports (internal_bus switch))
      (λ port on. not_fails (switch.id == port.id) (λ same. ids_apart platform laws switch port within (kept_from (is_on_bus (internal_bus switch)) platform.ports port on).0 (eqb-true switch.id port.id same)))))
      (pairs_mapped downstream_worker are_apart are_others (ports_on platform.ports (internal_bus switch)) (λ one other h. and-first _ _ (and-first _ _ h))
      (pairs_kept (is_on_bus (internal_bus switch)) are_apart platform.ports laws.apart))

  -- a port is one of one switch alone
  lanes_own : (one other : Switch) (worker : WorkerId) → Contains platform.switches one → Contains platform.switches other → IsLane one worker → IsLane other worker → one.id ≡ other.id
  lanes_own one other worker listed also (inl is) (inl same) = let ids : Port one.id ≡ Port other.id = is ∙ sym same in cc
  lanes_own one other worker listed also (inl is) (inr (port, within, on, same)) =
      let ids : Port one.id ≡ Port port.id = is ∙ sym same in
      absurd (ids_apart platform laws one port listed within cc)
  lanes_own one other worker listed also (inr (port, within, on, same)) (inl is) =
      let ids : Port other.id ≡ Port port.id = is ∙ sym same in
      absurd (ids_apart platform laws other port also within cc)
  lanes_own one other worker listed also (inr (port, within, on, same)) (inr (again, there, behind, is)) =
      let ids : Port port.id ≡ Port again.id = same ∙ sym is in
      let id : port.id ≡ again.id = cc in
      one_bus one.id other.id (switch_id platform laws one listed) (switch_id platform laws other also) (sym on ∙ ap bus_of id ∙ behind)

  absent : (one other : Switch) (worker : WorkerId) → Contains platform.switches one → Contains platform.switches other → Contains (lanes_of platform one) worker
      → (have_other_ids one other ≡ true) ⊎ (have_other_ids other one ≡ true) → Contains (lanes_of platform other) worker → ⊥
  absent one other worker listed also within apart there = go apart (lanes_own one other worker listed also (lane_cases one worker within) (lane_cases other worker there))
    where
      go : (have_other_ids one other ≡ true) ⊎ (have_other_ids other one ≡ true) → one.id ≡ other.id → ⊥
      go (inl h) same = both_tests (one.id == other.id) (eq-eqb one.id other.id same) h
      go (inr h) same = both_tests (other.id == one.id) (eq-eqb other.id one.id (sym same)) h

  module _ (placed : IsWellPlaced platform) (switch : Switch) (worker : WorkerId) (listed : Contains platform.switches switch) (within : Contains (lanes_of platform switch) worker) where
    pub from_port : filter (is_from worker) (pair_routes platform) ≡ routes_from (lanes_of platform switch) worker
    from_port =
        filter_parts (is_from worker) (switch_routes platform) platform.switches
        ∙ one_part have_other_ids (λ (s : Switch). filter (is_from worker) (switch_routes platform s)) platform.switches switch placed.apart listed
        (λ other also apart. from_none worker (lanes_of platform other) (absent switch other worker listed also within apart))
        ∙ from_lanes worker (lanes_of platform switch) (lanes_apart switch listed) within

    pub into_port : filter (is_into worker) (pair_routes platform) ≡ routes_into (lanes_of platform switch) worker
    into_port =
        filter_parts (is_into worker) (switch_routes platform) platform.switches
        ∙ one_part have_other_ids (λ (s : Switch). filter (is_into worker) (switch_routes platform s)) platform.switches switch placed.apart listed
        (λ other also apart. into_none worker (lanes_of platform other) (absent switch other worker listed also within apart))
        ∙ into_lanes worker (lanes_of platform switch) (lanes_apart switch listed) within
