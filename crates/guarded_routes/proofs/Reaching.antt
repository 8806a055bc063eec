-- To whom the machine of a domain says that an ID leads.
use Rattle.std.proofs.Common.{◌≡◌, ℕ, ◌≤◌, ◌==◌, Bool, true, false, ◌&&◌, Option, Some, option_map, refl, sym, ap, ◌∙◌, arith, ne_eqb}
use Rattle.std.specs.List.{find}
use Rattle.std.proofs.lemmas.Bool.{and_parts, leb-true, eqb-true, eq-eqb, cond-true, cond-false}
use Rattle.fab_types.specs.Id.{bus_of, host_of}
use Rattle.fab_types.specs.declared.origin.Origin.{Origin}
use Rattle.fab_types.specs.declared.origin.Origin.TheVariants.{Function, Host}
use Rattle.platform.specs.declared.parts.EndpointFunction.{EndpointFunction}
use Rattle.platform.specs.declared.parts.DownstreamPort.{DownstreamPort}
use Rattle.platform.specs.Owners.{first_port, is_function, is_own_function}
use Rattle.platform.specs.Platform.{Platform}
use Rattle.platform.specs.Reach.{function_at, holds_bus_if_any, reach}
use Rattle.platform.specs.Tree.{id_below}
use Rattle.layout.specs.Views.{share_of_domain}
use Rattle.bridge.specs.declared.target.Target.TheVariants.{Bus}
use Rattle.guarded_routes.specs.Guarded.{IsFunctionOf, IsGuarded, has_id}
use Rattle.guarded_routes.specs.Sound.{Reaches}
use Rattle.guarded_routes.proofs.Finds.{Found, any_found, find_any, find_passes, some}
use Rattle.guarded_routes.proofs.Trees.{is_port}
use Rattle.guarded_routes.proofs.Below.{not_first, one_secondary}
use Rattle.guarded_routes.proofs.Homes.{home_of}
use Rattle.guarded_routes.proofs.Nodes.{holder_above, only_here}
use Rattle.guarded_routes.proofs.Owners.{small}
use Rattle.guarded_routes.proofs.Passing.{first_held, first_leads, first_port_of}

module _ (platform : Platform) (g : IsGuarded platform) where
  -- a function that the domain's share has as its own is one of the domain
  pub own_of : (d f : ℕ) → is_own_function (share_of_domain platform d) f ≡ true → IsFunctionOf platform d f
  own_of d f own =
      let both = and_parts (is_function platform.functions f) _ own in
      let p = any_found (λ (q : DownstreamPort). (q.owner == d) && (q.secondary == bus_of f)) platform.ports both.1 in
      let tests = and_parts (p.found.owner == d) (p.found.secondary == bus_of f) (find_passes (λ (q : DownstreamPort). (q.owner == d) && (q.secondary == bus_of f)) platform.ports p.found p.is) in
      let first = any_found (λ (q : DownstreamPort). q.secondary == bus_of f) platform.ports (find_any (λ (q : DownstreamPort). (q.owner == d) && (q.secondary == bus_of f)) (λ (q : DownstreamPort). q.secondary == bus_of f) platform.ports p.found p.is tests.1) in
      let bus = eqb-true p.found.secondary (bus_of f) tests.1 in
      let bus' = eqb-true first.found.secondary (bus_of f) (find_passes (λ (q : DownstreamPort). q.secondary == bus_of f) platform.ports first.found first.is) in
      let same : first.found ≡ p.found = one_secondary platform g.laws first.found p.found
      (is_port platform g.laws (λ (q : DownstreamPort). q.secondary == bus_of f) first.found first.is)
      (is_port platform g.laws (λ (q : DownstreamPort). (q.owner == d) && (q.secondary == bus_of f)) p.found p.is) (bus' ∙ sym bus) in
      let owner : first.found.owner ≡ d = ap (λ (q : DownstreamPort). q.owner) same ∙ eqb-true p.found.owner d tests.0 in
      record { listed = both.0; owner = ap (option_map (λ (q : DownstreamPort). q.owner)) first.is ∙ ap some owner }

  -- the function whose first port has a bus below it is found
  function_is : (d f id : ℕ) → IsFunctionOf platform d f → has_id platform f id ≡ true → function_at platform.ports platform.functions (bus_of id) ≡ Some f
  function_is d f id own held = go (any_found (λ (line : EndpointFunction). line.id == f) platform.functions own.listed)
    where
      test : EndpointFunction → Bool
      test line = holds_bus_if_any (first_port platform.ports line.id) (bus_of id)

      of_line : (line : EndpointFunction) → find test platform.functions ≡ Some line → line.id ≡ f
      of_line line found =
          let listed : is_function platform.functions line.id ≡ true = find_any test (λ (l : EndpointFunction). l.id == line.id) platform.functions line found (eq-eqb line.id line.id refl) in
          let home = home_of platform g.laws line.id listed in
          let first = first_port_of platform g d f own in
          let other = first_port_of platform g home.0 line.id home.1 in
          let held' = first_held platform g home.0 line.id id other (find_passes test platform.functions line found) in
          let leads = first_leads platform g d f own first in
          let u = holder_above platform g other.port first.port other.listed first.listed leads (Bus (bus_of id)) held' (first_held platform g d f id first held) in
          let same : first.port ≡ other.port = only_here platform g first.port other.port (Some other.port) (first_leads platform g home.0 line.id home.1 other) u refl in
          other.below ∙ (ap id_below (sym same) ∙ sym first.below)

      go : Found (λ (line : EndpointFunction). line.id == f) platform.functions → option_map (λ (line : EndpointFunction). line.id) (find test platform.functions) ≡ Some f
      go line =
          let same : line.found.id ≡ f = eqb-true line.found.id f (find_passes (λ (line : EndpointFunction). line.id == f) platform.functions line.found line.is) in
          let passes : test line.found ≡ true = ap (λ (n : ℕ). holds_bus_if_any (first_port platform.ports n) (bus_of id)) same ∙ held in
          let f' = any_found test platform.functions (find_any (λ (line : EndpointFunction). line.id == f) test platform.functions line.found line.is passes) in
          ap (option_map (λ (line : EndpointFunction). line.id)) f'.is ∙ ap some (of_line f'.found f'.is)

  -- the machine sends what answers an ID to whom completions to that ID reach
  pub reach_is : (d f id : ℕ) (x : Option Origin) → IsFunctionOf platform d f → Reaches platform d id x → reach (share_of_domain platform d) id ≡ x
  reach_is d f id x own (Reaches.ByHost same) = cond-true (id == host_of d) (some (Host d)) (option_map Function (function_at platform.ports platform.functions (bus_of id))) (eq-eqb id (host_of d) same)
  reach_is d f id x own (Reaches.ByBus h other held) =
      let first = first_port_of platform g d h other in
      let more = not_first platform g.laws first.port first.listed in
      let few = small platform g d h first in
      let le : first.port.secondary ≤ bus_of id = leb-true first.port.secondary (bus_of id) (and_parts _ _ (first_held platform g d h id first held)).0 in
      let apart : (id == host_of d) ≡ false = ne_eqb id (host_of d) (λ e. omega (arith, more, few, le, e)) in
      cond-false (id == host_of d) (some (Host d)) (option_map Function (function_at platform.ports platform.functions (bus_of id))) apart
      ∙ ap (option_map Function) (function_is d h id other held)
