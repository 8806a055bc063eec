-- Where the wires of each link stand, and how many places their rings have.
use Rattle.std.proofs.Common.{◌≡◌, ℕ, zero, suc, ◌+◌, ◌*◌, ◌<◌, List, [], ◌∷◌, length, map, get_or, Option, Some, None, refl, sym, ap, ◌∙◌, arith, subst}
use Rattle.std.specs.Prelude.{All}
use Rattle.std.specs.List.{flat_map}
use Rattle.std.proofs.lemmas.Option.{same_Some}
use Rattle.std.proofs.lemmas.List.{get_or-map, length-append, length-map}
use Rattle.std.proofs.lemmas.List.Elements.{All-nil}
use Rattle.platform.specs.Platform.{Platform}
use Rattle.thread_crew.specs.declared.worker_id.WorkerId.{WorkerId}
use Rattle.topology.specs.Links.{link_of_function, link_of_switch, links_of}
use Rattle.thread_rings.specs.declared.wire.Wire.{Wire}
use Rattle.thread_plan.specs.declared.route.Route.{Route}
use Rattle.thread_plan.specs.Plans.{plan_of, route_of, wire_between, wire_of, wires_of}
use Rattle.thread_plan.specs.Routes.{back, both_ways, link_routes, up_from_function, up_from_switch, up_routes}
use Rattle.thread_plan.specs.Workers.{number_of, workers_of}
use Rattle.thread_plan.proofs.Laid.{credits_named, links_named}
use Rattle.thread_plan.proofs.Within.{one_more}

-- ---- places

wire_places : (places : ℕ) (from to : Option ℕ) (wire : Wire) → wire_between places from to ≡ Some wire → wire.places ≡ places
wire_places places (Some from) (Some to) wire e = subst (λ (w : Wire). w.places ≡ places) (same_Some _ _ e) refl
wire_places places (Some from) None wire e = absurd cc
wire_places places None to wire e = absurd cc

pub places_of : (workers : List WorkerId) (places : ℕ) (routes : List Route) → All (λ wire. wire.places ≡ places) (wires_of workers places routes)
places_of workers places [] = All-nil (λ wire. wire.places ≡ places)
places_of workers places (r ∷ rs) =
    one_more (λ wire. wire.places ≡ places) (wire_of workers places r) (wires_of workers places rs)
    (λ wire e. wire_places places (number_of workers r.from) (number_of workers r.to) wire e) (places_of workers places rs)

-- ---- two wires for each link

two_each : (ups : List Route) → length (flat_map both_ways ups) ≡ 2 * length ups
two_each [] = refl
two_each (up ∷ ups) = let rest = two_each ups in omega arith

way_up : (ups : List Route) (i : ℕ) (d e : Route) → i < length ups → get_or (flat_map both_ways ups) (2 * i) d ≡ get_or ups i e
way_up [] i d e less = absurd (omega arith)
way_up (up ∷ ups) zero d e less = refl
way_up (up ∷ ups) (suc i) d e less =
    let two : 2 * suc i ≡ suc (suc (2 * i)) = omega arith in
    ap (λ (n : ℕ). get_or (flat_map both_ways (up ∷ ups)) n d) two ∙ way_up ups i d e (omega arith)

way_down : (ups : List Route) (i : ℕ) (d e : Route) → i < length ups → get_or (flat_map both_ways ups) (2 * i + 1) d ≡ back (get_or ups i e)
way_down [] i d e less = absurd (omega arith)
way_down (up ∷ ups) zero d e less = refl
way_down (up ∷ ups) (suc i) d e less =
    let two : 2 * suc i + 1 ≡ suc (suc (2 * i + 1)) = omega arith in
    ap (λ (n : ℕ). get_or (flat_map both_ways (up ∷ ups)) n d) two ∙ way_down ups i d e (omega arith)

many_ups : (platform : Platform) → length (up_routes platform) ≡ length (links_of platform)
many_ups platform =
    let ups = length-append (map (up_from_switch platform) platform.switches) (map (up_from_function platform) platform.functions) in
    let links = length-append (map (link_of_switch platform) platform.switches) (map (link_of_function platform) platform.functions) in
    let one = length-map platform.switches (up_from_switch platform) in
    let two = length-map platform.functions (up_from_function platform) in
    let three = length-map platform.switches (link_of_switch platform) in
    let four = length-map platform.functions (link_of_function platform) in
    omega arith

many_routes : (platform : Platform) → length (link_routes platform) ≡ 2 * length (links_of platform)
many_routes platform = two_each (up_routes platform) ∙ ap (λ (n : ℕ). 2 * n) (many_ups platform)

pub many_links : (platform : Platform) → length (plan_of platform).links ≡ 2 * length (links_of platform)
many_links platform = sym (length-map (plan_of platform).links (route_of (workers_of platform))) ∙ ap (λ (l : List Route). length l) (links_named platform) ∙ many_routes platform

pub many_credits : (platform : Platform) → length (plan_of platform).credits ≡ 2 * length (links_of platform)
many_credits platform =
    sym (length-map (plan_of platform).credits (route_of (workers_of platform))) ∙ ap (λ (l : List Route). length l) (credits_named platform)
    ∙ length-map (link_routes platform) back ∙ many_routes platform

-- what a table has at a place, by names
read : (workers : List WorkerId) (wires : List Wire) (routes : List Route) (n : ℕ) (w : Wire) (r : Route) → map (route_of workers) wires ≡ routes → n < length wires → route_of workers (get_or wires n w) ≡ get_or routes n r
read workers wires routes n w r e less = sym (get_or-map (route_of workers) wires n w r less) ∙ ap (λ (l : List Route). get_or l n r) e

module _ (platform : Platform) (i : ℕ) (w : Wire) (r : Route) (less : i < length (links_of platform)) where
  pub link_up : route_of (workers_of platform) (get_or (plan_of platform).links (2 * i) w) ≡ get_or (up_routes platform) i r
  link_up =
      let many = many_links platform in
      let ups = many_ups platform in
      read (workers_of platform) (plan_of platform).links (link_routes platform) (2 * i) w r (links_named platform) (omega arith) ∙ way_up (up_routes platform) i r r (omega arith)

  pub link_down : route_of (workers_of platform) (get_or (plan_of platform).links (2 * i + 1) w) ≡ back (get_or (up_routes platform) i r)
  link_down =
      let many = many_links platform in
      let ups = many_ups platform in
      read (workers_of platform) (plan_of platform).links (link_routes platform) (2 * i + 1) w r (links_named platform) (omega arith) ∙ way_down (up_routes platform) i r r (omega arith)

  pub credit_down : route_of (workers_of platform) (get_or (plan_of platform).credits (2 * i) w) ≡ back (get_or (up_routes platform) i r)
  credit_down =
      let many = many_credits platform in
      let ups = many_ups platform in
      let routes = many_routes platform in
      read (workers_of platform) (plan_of platform).credits (map back (link_routes platform)) (2 * i) w (back r) (credits_named platform) (omega arith)
      ∙ get_or-map back (link_routes platform) (2 * i) r (back r) (omega arith) ∙ ap back (way_up (up_routes platform) i r r (omega arith))

  pub credit_up : route_of (workers_of platform) (get_or (plan_of platform).credits (2 * i + 1) w) ≡ get_or (up_routes platform) i r
  credit_up =
      let many = many_credits platform in
      let ups = many_ups platform in
      let routes = many_routes platform in
      read (workers_of platform) (plan_of platform).credits (map back (link_routes platform)) (2 * i + 1) w (back r) (credits_named platform) (omega arith)
      ∙ get_or-map back (link_routes platform) (2 * i + 1) r (back r) (omega arith) ∙ ap back (way_down (up_routes platform) i r r (omega arith))
