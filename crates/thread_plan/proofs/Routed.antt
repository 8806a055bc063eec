-- Every route leads from a worker to a worker.
use Rattle.std.proofs.Common.{◌≡◌, ◌==◌, ℕ, List, [], ◌∷◌, ◌++◌, map, Option, Some, None, refl}
use Rattle.std.specs.Prelude.{All, Contains}
use Rattle.std.specs.List.{flat_map}
use Rattle.std.specs.Option.{option_and_then}
use Rattle.std.proofs.lemmas.List.Elements.{All-append, All-cons, All-contains, All-map, All-nil, Contains-append_left, Contains-append_right, Contains-get_or}
use Rattle.platform.specs.declared.parts.DownstreamPort.{DownstreamPort}
use Rattle.platform.specs.declared.parts.EndpointFunction.{EndpointFunction}
use Rattle.platform.specs.declared.parts.Switch.{Switch}
use Rattle.platform.specs.Platform.{Platform}
use Rattle.platform.specs.Tree.{id_below, internal_bus, is_on_bus, port_above, port_at, port_leading_to}
use Rattle.thread_crew.specs.declared.worker_id.WorkerId.{WorkerId}
use Rattle.thread_crew.specs.declared.worker_id.WorkerId.TheVariants.{Host}
use Rattle.topology.specs.Nodes.{ports_on}
use Rattle.topology.proofs.Members.{found, here, kept_from, later, mapped}
use Rattle.thread_plan.specs.declared.route.Route.{Route}
use Rattle.thread_plan.specs.Routes.{back, both_ways, credit_routes, lanes_of, link_routes, pair_routes, route, routes_between, routes_from, switch_routes, up_from_function, up_from_switch, up_routes, worker_above}
use Rattle.thread_plan.specs.Workers.{downstream_worker, function_worker, upstream_worker, workers_of}
use Rattle.thread_plan.proofs.Named.{IsRoute}

-- what holds of each part holds of all parts together
pub all_parts : {X Y : Type 0} (P : Y → Type 0) (f : X → List Y) (xs : List X) → ((x : X) → Contains xs x → All P (f x)) → All P (flat_map f xs)
all_parts P f [] each = All-nil P
all_parts P f (x ∷ xs) each = All-append P (f x) (flat_map f xs) (each x (here x xs)) (all_parts P f xs (λ y within. each y (later x y xs within)))

pub all_of : {X Y : Type 0} (P : Y → Type 0) (f : X → Y) (xs : List X) → ((x : X) → Contains xs x → P (f x)) → All P (map f xs)
all_of P f xs each = All-map P f xs (λ k d less. each _ (Contains-get_or xs k d less))

-- ---- who has a worker

module _ (platform : Platform) where
  pub switch_listed : (switch : Switch) → Contains platform.switches switch → Contains (workers_of platform) (upstream_worker switch)
  switch_listed switch within =
      Contains-append_left (map upstream_worker platform.switches ++ map downstream_worker platform.ports ++ map function_worker platform.functions) (Host ∷ []) (upstream_worker switch)
      (Contains-append_left (map upstream_worker platform.switches ++ map downstream_worker platform.ports) (map function_worker platform.functions) (upstream_worker switch)
      (Contains-append_left (map upstream_worker platform.switches) (map downstream_worker platform.ports) (upstream_worker switch) (mapped upstream_worker platform.switches switch within)))

  pub port_listed : (port : DownstreamPort) → Contains platform.ports port → Contains (workers_of platform) (downstream_worker port)
  port_listed port within =
      Contains-append_left (map upstream_worker platform.switches ++ map downstream_worker platform.ports ++ map function_worker platform.functions) (Host ∷ []) (downstream_worker port)
      (Contains-append_left (map upstream_worker platform.switches ++ map downstream_worker platform.ports) (map function_worker platform.functions) (downstream_worker port)
      (Contains-append_right (map upstream_worker platform.switches) (map downstream_worker platform.ports) (downstream_worker port) (mapped downstream_worker platform.ports port within)))

  pub function_listed : (function : EndpointFunction) → Contains platform.functions function → Contains (workers_of platform) (function_worker function)
  function_listed function within =
      Contains-append_left (map upstream_worker platform.switches ++ map downstream_worker platform.ports ++ map function_worker platform.functions) (Host ∷ []) (function_worker function)
      (Contains-append_right (map upstream_worker platform.switches ++ map downstream_worker platform.ports) (map function_worker platform.functions) (function_worker function) (mapped function_worker platform.functions function within))

  pub host_listed : Contains (workers_of platform) Host
  host_listed = Contains-append_right (map upstream_worker platform.switches ++ map downstream_worker platform.ports ++ map function_worker platform.functions) (Host ∷ []) Host (here Host [])

  -- ---- links

  above_listed : (port : Option DownstreamPort) → ((p : DownstreamPort) → port ≡ Some p → Contains platform.ports p) → Contains (workers_of platform) (worker_above port)
  above_listed None within = host_listed
  above_listed (Some port) within = port_listed port (within port refl)

  pub over_switch : (above : Option ℕ) (p : DownstreamPort) → option_and_then (λ id. port_at platform.ports id) above ≡ Some p → Contains platform.ports p
  over_switch None p e = absurd cc
  over_switch (Some id) p e = (found (λ port. port.id == id) platform.ports p e).0

  up_listed : All (IsRoute (workers_of platform)) (up_routes platform)
  up_listed = All-append (IsRoute (workers_of platform)) (map (up_from_switch platform) platform.switches) (map (up_from_function platform) platform.functions)
      (all_of (IsRoute (workers_of platform)) (up_from_switch platform) platform.switches (λ switch within. record {
        from = switch_listed switch within;
        to = above_listed (port_above platform.ports switch) (λ p e. over_switch switch.above p e);
      }))
      (all_of (IsRoute (workers_of platform)) (up_from_function platform) platform.functions (λ function within. record {
        from = function_listed function within;
        to = above_listed (port_leading_to platform.ports function.id) (λ p e. (found (λ port. id_below port == function.id) platform.ports p e).0);
      }))

  back_listed : (r : Route) → IsRoute (workers_of platform) r → IsRoute (workers_of platform) (back r)
  back_listed r is = record { from = is.to; to = is.from }

  both_listed : (r : Route) → IsRoute (workers_of platform) r → All (IsRoute (workers_of platform)) (both_ways r)
  both_listed r is = All-cons (IsRoute (workers_of platform)) r (back r ∷ []) is (All-cons (IsRoute (workers_of platform)) (back r) [] (back_listed r is) (All-nil (IsRoute (workers_of platform))))

  pub links_listed : All (IsRoute (workers_of platform)) (link_routes platform)
  links_listed = all_parts (IsRoute (workers_of platform)) both_ways (up_routes platform) (λ r within. both_listed r (All-contains (IsRoute (workers_of platform)) (up_routes platform) r up_listed within))

  pub credits_listed : All (IsRoute (workers_of platform)) (credit_routes platform)
  credits_listed = all_of (IsRoute (workers_of platform)) back (link_routes platform) (λ r within. back_listed r (All-contains (IsRoute (workers_of platform)) (link_routes platform) r links_listed within))

  -- ---- ports of a switch

  lanes_listed : (switch : Switch) → Contains platform.switches switch → All (Contains (workers_of platform)) (lanes_of platform switch)
  lanes_listed switch within = All-cons (Contains (workers_of platform)) (upstream_worker switch) (map downstream_worker (ports_on platform.ports (internal_bus switch))) (switch_listed switch within)
      (all_of (Contains (workers_of platform)) downstream_worker (ports_on platform.ports (internal_bus switch)) (λ port on. port_listed port (kept_from (is_on_bus (internal_bus switch)) platform.ports port on).0))

  between_listed : (lanes : List WorkerId) → All (Contains (workers_of platform)) lanes → All (IsRoute (workers_of platform)) (routes_between lanes)
  between_listed lanes all = all_parts (IsRoute (workers_of platform)) (routes_from lanes) lanes
      (λ from one. all_of (IsRoute (workers_of platform)) (route from) lanes (λ to other. record {
        from = All-contains (Contains (workers_of platform)) lanes from all one;
        to = All-contains (Contains (workers_of platform)) lanes to all other;
      }))

  pub pairs_listed : All (IsRoute (workers_of platform)) (pair_routes platform)
  pairs_listed = all_parts (IsRoute (workers_of platform)) (switch_routes platform) platform.switches (λ switch within. between_listed (lanes_of platform switch) (lanes_listed switch within))
