-- What a port with all five controls makes of the route of a request.
use Rattle.std.proofs.Common.{◌≡◌, ℕ, Bool, true, false, cond, ◌&&◌, ◌||◌, not, List, Option, Some, None, refl, ap, ◌∙◌}
use Rattle.std.specs.Prelude.{Ok, Err}
use Rattle.std.proofs.lemmas.Bool.{cond-false, cond-true, false≢true}
use Rattle.fab_types.specs.Controls.{controls_egress, forwards_upstream, redirects_completions, redirects_requests}
use Rattle.fab_types.specs.declared.head.AddressType.{AddressType}
use Rattle.fab_types.specs.declared.head.Header.{Header}
use Rattle.fab_types.specs.declared.head.Header.TheVariants as header
use Rattle.fab_types.specs.declared.violation.Check.TheVariants.{EgressControl}
use Rattle.platform.specs.declared.parts.DownstreamPort.{DownstreamPort}
use Rattle.platform.specs.declared.parts.Switch.{Switch}
use Rattle.platform.specs.Egress.{direct_at, holder_beside, let_to, lets_through}
use Rattle.platform.specs.Owners.{holds_address}
use Rattle.platform.specs.Tree.{id_below, port_at}
use Rattle.bridge.specs.declared.route.Route.{Route}
use Rattle.bridge.specs.declared.route.Route.TheVariants as to
use Rattle.bridge.specs.declared.target.Target.TheVariants.{Address}
use Rattle.bridge.specs.Routes.{route_from, route_of, to_holder}
use Rattle.acs.specs.declared.vetting.Verdict.TheVariants.{Violation}
use Rattle.acs.specs.Redirection.{completion_goes_up, goes_up, is_blocked, is_peer_request, redirected, request_goes_up}
use Rattle.guarded_routes.specs.FirstPorts.{route_beside, route_left}
use Rattle.guarded_routes.proofs.Controls.{Set}

blocked_by : (egress redirects peer : Bool) → redirects ≡ true → (egress && not redirects && peer) ≡ false
blocked_by true true peer e = refl
blocked_by false redirects peer e = refl
blocked_by true false peer e = absurd (false≢true e)

peer_goes : (redirects lets completions forwards : Bool) → redirects ≡ true → ((redirects && (true && true && not lets)) || (completions && true && false) || (forwards && false)) ≡ not lets
peer_goes true true true true e = refl
peer_goes true true true false e = refl
peer_goes true true false true e = refl
peer_goes true true false false e = refl
peer_goes true false completions forwards e = refl
peer_goes false lets completions forwards e = absurd (false≢true e)

own_goes : (request completion forwards : Bool) → forwards ≡ true → (request || completion || (forwards && true)) ≡ true
own_goes true completion forwards e = refl
own_goes false true forwards e = refl
own_goes false false true e = refl
own_goes false false false e = absurd (false≢true e)

same_either : (b : Bool) → cond b to.Up to.Up ≡ to.Up
same_either true = refl
same_either false = refl

beside_is : (lets : Bool) (other : ℕ) → cond (not lets) to.Up (to.Port other) ≡ cond lets (to.Port other) to.Up
beside_is true other = refl
beside_is false other = refl

module _ (line : DownstreamPort) (set : Set line) where
  -- it blocks none
  pub not_blocked : (route : Route) (h : Header) → redirected line route h ≡ Ok (cond (goes_up line route h) to.Up route)
  not_blocked route h =
      cond-false (is_blocked line route h) (Err (Violation EgressControl)) (Ok (cond (goes_up line route h) to.Up route)) (blocked_by (controls_egress line.controls) (redirects_requests line.controls) (is_peer_request line route h) set.requests)

  pub own_up : (h : Header) → redirected line to.OwnEgress h ≡ Ok to.Up
  own_up h =
      not_blocked to.OwnEgress h
      ∙ ap Ok (cond-true (goes_up line to.OwnEgress h) to.Up to.OwnEgress (own_goes (request_goes_up line to.OwnEgress h) (completion_goes_up line to.OwnEgress h) (forwards_upstream line.controls) set.upstream))

  pub stays_up : (h : Header) → redirected line to.Up h ≡ Ok to.Up
  stays_up h = not_blocked to.Up h ∙ ap Ok (same_either (goes_up line to.Up h))

  -- a request for another port goes there if it is let through, and else up
  peer_goes_so : (other requester address : ℕ) (address_type : AddressType) → redirected line (to.Port other) (header.Memory requester address_type address) ≡ Ok (cond (lets_through line other) (to.Port other) to.Up)
  peer_goes_so other requester address address_type =
      not_blocked (to.Port other) (header.Memory requester address_type address)
      ∙ ap Ok
      (ap (λ (b : Bool). cond b to.Up (to.Port other)) (peer_goes (redirects_requests line.controls) (lets_through line other) (redirects_completions line.controls) (forwards_upstream line.controls) set.requests)
      ∙ beside_is (lets_through line other) other)

  module _ (switches : List Switch) (ports : List DownstreamPort) (listed : port_at ports line.id ≡ Some line) (requester address : ℕ) (address_type : AddressType) where
    h : Header
    h = header.Memory requester address_type address

    pub request_left : redirected line (route_of switches ports line.id (header.Memory requester address_type address)) (header.Memory requester address_type address) ≡ Ok (route_left ports line address)
    request_left =
        ap (λ (p : Option DownstreamPort). redirected line (route_from switches ports line.id (Some (Address address)) p) (header.Memory requester address_type address)) listed
        ∙ within (holds_address line address) (holder_beside ports line address)
      where
        beside : (o : Option DownstreamPort) → redirected line (to_holder to.Up o) (header.Memory requester address_type address) ≡ Ok (route_beside line o)
        beside None = stays_up (header.Memory requester address_type address)
        beside (Some other) = peer_goes_so other.id requester address address_type

        within : (b : Bool) (o : Option DownstreamPort) → redirected line (cond b to.OwnEgress (to_holder to.Up o)) (header.Memory requester address_type address) ≡ Ok (cond b to.Up (route_beside line o))
        within true o = own_up (header.Memory requester address_type address)
        within false o = beside o

-- ---- the route that is left

left_by : (lets : Bool) (other : DownstreamPort) → cond lets (Some (id_below other)) None ≡ None → cond lets (to.Port other.id) to.Up ≡ to.Up
left_by true other e = absurd cc
left_by false other e = refl

left_beside : (line : DownstreamPort) (o : Option DownstreamPort) → let_to line o ≡ None → route_beside line o ≡ to.Up
left_beside line None e = refl
left_beside line (Some other) e = left_by (lets_through line other.id) other e

left_within : (line : DownstreamPort) (b : Bool) (o : Option DownstreamPort) → cond b None (let_to line o) ≡ None → cond b to.Up (route_beside line o) ≡ to.Up
left_within line true o e = refl
left_within line false o e = left_beside line o e

-- up, where the port lets it through to none
pub left_up : (ports : List DownstreamPort) (line : DownstreamPort) (address : ℕ) → direct_at ports address line ≡ None → route_left ports line address ≡ to.Up
left_up ports line address e = left_within line (holds_address line address) (holder_beside ports line address) e

-- to that other port, where it does
pub left_to : (ports : List DownstreamPort) (line other : DownstreamPort) (address : ℕ) → holds_address line address ≡ false → holder_beside ports line address ≡ Some other → lets_through line other.id ≡ true → route_left ports line address ≡ to.Port other.id
left_to ports line other address outside beside lets =
    cond-false (holds_address line address) to.Up (route_beside line (holder_beside ports line address)) outside
    ∙ (ap (route_beside line) beside ∙ cond-true (lets_through line other.id) (to.Port other.id) to.Up lets)
