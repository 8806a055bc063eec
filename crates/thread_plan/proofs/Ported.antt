-- The worker of a port has the number of its place: no two ports have one name.
use Rattle.std.proofs.Common.{◌≡◌, ℕ, ◌+◌, ◌<◌, inr, true, List, [], ◌∷◌, ◌++◌, length, map, get_or, Some, sym, ◌∙◌, arith}
use Rattle.std.specs.Prelude.{Contains}
use Rattle.std.proofs.lemmas.List.{get_or_append_left, length-append, length-map}
use Rattle.layout.specs.Laws.{IsPlatform, are_apart, each_pair}
use Rattle.layout.specs.Places.{IsWellPlaced, have_other_ids}
use Rattle.platform.proofs.Bools.{and-first}
use Rattle.platform.specs.declared.parts.DownstreamPort.{DownstreamPort}
use Rattle.platform.specs.declared.parts.Switch.{Switch}
use Rattle.platform.specs.Platform.{Platform}
use Rattle.thread_crew.specs.declared.worker_id.WorkerId.{WorkerId}
use Rattle.thread_crew.specs.declared.worker_id.WorkerId.TheVariants.{Port, Host}
use Rattle.topology.proofs.Members.{mapped_from, pair_at, pairs_appended, pairs_mapped, position_is}
use Rattle.topology.proofs.Standing.{ids_apart}
use Rattle.thread_plan.specs.Workers.{downstream_worker, function_worker, number_of, same_worker, upstream_worker, workers_of}
use Rattle.thread_plan.proofs.Lanes.{are_others, not_fails, other_fails, two_workers}
use Rattle.thread_plan.proofs.Named.{same_is, same_itself}

abbrev port_workers : Platform → List WorkerId
port_workers platform = map upstream_worker platform.switches ++ map downstream_worker platform.ports

module _ (platform : Platform) (laws : IsPlatform platform) (placed : IsWellPlaced platform) where
  across : (one other : WorkerId) → (switch : Switch) × Contains platform.switches switch × (upstream_worker switch ≡ one) → (port : DownstreamPort) × Contains platform.ports port × (downstream_worker port ≡ other) → are_others one other ≡ true
  across one other (switch, listed, is) (port, within, also) =
      not_fails (same_worker one other)
      (λ same. let ids : Port switch.id ≡ Port port.id = is ∙ same_is one other same ∙ sym also in ids_apart platform laws switch port listed within cc)

  ports_apart : each_pair are_others (port_workers platform) ≡ true
  ports_apart =
      pairs_appended are_others (map upstream_worker platform.switches) (map downstream_worker platform.ports)
      (pairs_mapped upstream_worker have_other_ids are_others platform.switches (λ one other h. h) placed.apart)
      (pairs_mapped downstream_worker are_apart are_others platform.ports (λ one other h. and-first _ _ (and-first _ _ h)) laws.apart)
      (λ one other up down. across one other (mapped_from upstream_worker platform.switches one up) (mapped_from downstream_worker platform.ports other down))

  many_ports : length (port_workers platform) ≡ length platform.switches + length platform.ports
  many_ports =
      let both = length-append (map upstream_worker platform.switches) (map downstream_worker platform.ports) in
      let up : length (map upstream_worker platform.switches) ≡ length platform.switches = length-map platform.switches upstream_worker in
      let down : length (map downstream_worker platform.ports) ≡ length platform.ports = length-map platform.ports downstream_worker in
      omega arith

  -- ports come first
  port_at_place : (k : ℕ) (d : WorkerId) → k < length (port_workers platform) → get_or (workers_of platform) k d ≡ get_or (port_workers platform) k d
  port_at_place k d less =
      let more = length-append (port_workers platform) (map function_worker platform.functions) in
      get_or_append_left (port_workers platform ++ map function_worker platform.functions) (Host ∷ []) d k (omega arith)
      ∙ get_or_append_left (port_workers platform) (map function_worker platform.functions) d k less

  pub port_number : (k : ℕ) (d : WorkerId) → k < length platform.switches + length platform.ports → number_of (workers_of platform) (get_or (workers_of platform) k d) ≡ Some k
  port_number k d less =
      let many = many_ports in
      let inside : k < length (port_workers platform) = omega arith in
      let more = length-append (port_workers platform) (map function_worker platform.functions) in
      let all = length-append (port_workers platform ++ map function_worker platform.functions) (Host ∷ []) in
      position_is (same_worker (get_or (workers_of platform) k d)) (workers_of platform) k d (omega arith) (same_itself (get_or (workers_of platform) k d))
      (λ j before. other_fails (get_or (workers_of platform) k d) (get_or (workers_of platform) j d) (λ same. two_workers (get_or (port_workers platform) k d) (get_or (port_workers platform) j d)
      (inr (pair_at are_others (port_workers platform) j k d ports_apart before inside)) (sym (port_at_place k d inside) ∙ same ∙ port_at_place j d (omega arith))))
