-- A guarded fabric where a function takes a packet.
use Rattle.std.proofs.Common.{◌≡◌, ℕ, Bool, true, false, cond, [], inl, inr, Option, Some, None, get_or, refl, sym, ap, ◌∙◌, subst, eq-eqb}
use Rattle.std.specs.Prelude.{is_some, slice_get}
use Rattle.std.proofs.lemmas.List.Quantifiers.{position-Some}
use Rattle.std.proofs.lemmas.Option.{same_Some, slice_get-get_or}
use Rattle.fab_types.specs.declared.head.AddressType.{AddressType}
use Rattle.fab_types.specs.declared.head.AddressType.TheVariants.{Untranslated}
use Rattle.fab_types.specs.declared.head.Header.{Header}
use Rattle.fab_types.specs.declared.head.Header.TheVariants as header
use Rattle.fab_types.specs.declared.origin.Origin.TheVariants.{Function}
use Rattle.bridge.specs.Bridges.{Routes}
use Rattle.platform.specs.Egress.{direct_to, is_peer}
use Rattle.platform.specs.Owners.{is_function, is_own_function}
use Rattle.platform.specs.Share.{Share}
use Rattle.domain.specs.declared.entry.Entry.TheVariants.{Carry}
use Rattle.domain.specs.Domains.{DomainView}
use Rattle.domain.specs.Machine.{replay}
use Rattle.domain_state.specs.State.{start_state}
use Rattle.domains.specs.Agents.{AgentsView, carried_by_function, emitted_if, is_function_of, is_of_domain}
use Rattle.lane.specs.Lanes.{Class}
use Rattle.domains.specs.Domains.{domain_at, made, place_of_function}
use Rattle.topology.specs.Links.{sender_of}
use Rattle.guarded_routes.specs.Ends.{IsRequestTo}
use Rattle.guarded_routes.specs.Guarded.{IsFunctionOf}
use Rattle.guarded_routes.specs.Sound.{IsMeantFor, is_reply}
use Rattle.guarded_routes.proofs.Hosts.{delivers}
use Rattle.guarded_routes.proofs.Reaching.{own_of}
use Rattle.guarded_routes.proofs.Replies.{carried_up}
use Rattle.guarded_routes.proofs.Taking.{accesses, home_at, meant_at, reply_at, request_at}
use Rattle.fabric_core.specs.Arrivals.{Taken, arrive, arrived, arrived_by, ended, received_at, own_by_function, taken, to_function}
use Rattle.received.specs.declared.received.Received.{Received}
use Rattle.received.specs.Received.{memory_at_function, received_by_function}
use Rattle.fabric_core.specs.Invariant.{IsConsistent}
use Rattle.fabric_core.specs.Soundness.{IsGuardedFabric}
use Rattle.fabric_core.specs.World.{World}
use Rattle.fabric_core.proofs.soundness.GuardedAliens.{home_at_function}
use Rattle.fabric_core.proofs.soundness.GuardedEnds.{IsLegalThere, SoundlyTaken, guarded_carry, guarded_delivery, soundly_taken}
use Rattle.fabric_core.proofs.soundness.SoundDomains.{share_is}

-- ---- the domain of a function

-- the function is one of the domain that is found for it
pub record FunctionHome (w : World) (g : IsGuardedFabric w) (function : ℕ) : Type 0 where
  pub d : DomainView
  pub found : domain_at w.agents.domains (place_of_function w.agents.domains function) ≡ Some d
  pub own : IsFunctionOf g.platform d.share.domain function

no_share : Share
no_share = record { domain = 0; budget = 0; frames = []; maps = []; switches = []; ports = []; functions = [] }

nobody : DomainView
nobody = record { share = no_share; state = start_state no_share; journal = [] }

pub function_home : (w : World) (g : IsGuardedFabric w) (function : ℕ) (place : Option ℕ) → place_of_function w.agents.domains function ≡ place → is_some place ≡ true → FunctionHome w g function
unfolding place_of_function
function_home w g function None found there = absurd cc
function_home w g function (Some number) found there =
    let d = get_or w.agents.domains number nobody in
    let at = position-Some (λ (x : DomainView). is_own_function x.share function) w.agents.domains number nobody found in
    let here : slice_get w.agents.domains number ≡ Some d = slice_get-get_or w.agents.domains number nobody at.0 in
    record {
      d = d;
      found = ap (domain_at w.agents.domains) found ∙ here;
      own = own_of g.platform g.guarded d.share.domain function (subst (λ (s : Share). is_own_function s function ≡ true) (share_is g.platform w.agents.domains number d g.of_it.shares here) at.1);
    }

module _ (w : World) (g : IsGuardedFabric w) (function : ℕ) (home : FunctionHome w g function) (t : Taken) (k : SoundlyTaken w g (to_function function) t) where
  pub listed : is_function g.platform.functions function ≡ true
  listed = home.own.listed

  own : IsFunctionOf g.platform t.frame.domain function
  own = home_at g.platform g.guarded function t.frame listed k.sound

  -- the domain of the packet is the function's
  same_domain : home.d.share.domain ≡ t.frame.domain
  same_domain = same_Some home.d.share.domain t.frame.domain (sym home.own.owner ∙ own.owner)

  pub of_domain : is_function_of w.agents.domains function t.frame.domain ≡ true
  of_domain = ap (is_of_domain t.frame.domain) home.found ∙ eq-eqb home.d.share.domain t.frame.domain same_domain

  pub carry_legal : is_reply t.frame.head.header ≡ false → IsLegalThere w g t.frame (Carry t.frame.number)
  carry_legal request d old share flies =
      accesses g.platform g.guarded function t.frame d.state d.journal listed k.sound request (subst (λ (s : Share). replay s d.journal ≡ Some d.state) share old.replayed) flies

  carries : is_reply t.frame.head.header ≡ false → IsGuardedFabric (ended w t (carried_by_function w.agents function t.frame))
  carries request =
      subst (λ (b : Bool). IsGuardedFabric (ended w t (emitted_if w.agents (Function function) (cond b (made w.agents.domains t.frame.domain (Carry t.frame.number)) None)))) (sym of_domain)
      (guarded_carry w g (to_function function) t (Function function) k (carry_legal request)
      (λ number s c e flies legal sent well. inr (carried_up g.platform g.guarded t.frame number function s c e listed k.sound request flies legal sent well)))

  -- what its home's entry leaves
  abbrev left_by : Received → World
  left_by received = ended w t (own_by_function w.agents function t.frame received)

  delivered_here : is_reply t.frame.head.header ≡ true → IsGuardedFabric (left_by Received.Completion)
  delivered_here reply =
      guarded_delivery w g (to_function function) t k (λ d old share flies. delivers g.platform g.guarded t.frame d.state (Function function) (reply_at g.platform g.guarded function t.frame listed k.sound reply) reply flies)

  pub meant : (h : Header) → t.frame.head.header ≡ h → IsMeantFor g.platform t.frame.domain function t.frame.head.parties h
  meant h same = subst (IsMeantFor g.platform t.frame.domain function t.frame.head.parties) same (meant_at g.platform g.guarded function t.frame listed k.sound)

  same_address : (one other address address' : ℕ) (address_type address_type' : AddressType) → header.Memory one address_type address ≡ header.Memory other address_type' address' → address ≡ address'
  same_address one other address address' address_type address_type' e = cc

  -- a memory request is carried, of the host or of another function
  pub is_carried : (requester address : ℕ) (address_type : AddressType) → t.frame.head.header ≡ header.Memory requester address_type address → IsRequestTo g.platform t.frame function
      → received_by_function w.routes.ports function t.frame.head.parties (header.Memory requester address_type address) ≡ Received.Request
  is_carried requester address address_type same (inl to) = ap (memory_at_function w.routes.ports function address) to
  is_carried requester address address_type same (inr q) =
      let there : address ≡ q.address = same_address requester q.requester address q.address address_type Untranslated (sym same ∙ q.plain) in
      let direct : direct_to w.routes.ports q.sender address ≡ Some function = ap (λ (r : Routes). direct_to r.ports q.sender address) g.of_it.routes ∙ (ap (direct_to g.platform.ports q.sender) there ∙ q.direct) in
      ap (memory_at_function w.routes.ports function address) q.parties
      ∙ (ap (λ (o : Option ℕ). cond (is_peer function o) Received.Request Received.Unknown) direct ∙ ap (λ (b : Bool). cond b Received.Request Received.Unknown) (eq-eqb function function refl))

  arrived_as : (h : Header) → t.frame.head.header ≡ h → IsGuardedFabric (left_by (received_by_function w.routes.ports function t.frame.head.parties h))
  arrived_as header.Malformed same = absurd (meant header.Malformed same)
  arrived_as (header.Memory requester address_type address) same =
      let request = ap is_reply same in
      subst (λ (r : Received). IsGuardedFabric (left_by r)) (sym (is_carried requester address address_type same (request_at g.platform g.guarded function t.frame listed k.sound request))) (carries request)
  arrived_as (header.OtherRequest requester) same = absurd (meant (header.OtherRequest requester) same)
  arrived_as (header.Completion target relaxed_ordering) same = delivered_here (ap is_reply same)

  arrived_own : IsGuardedFabric (left_by (received_at w function t.frame))
  arrived_own =
      subst (λ (b : Bool). IsGuardedFabric (left_by (cond b (received_by_function w.routes.ports function t.frame.head.parties t.frame.head.header) Received.Unknown))) (sym of_domain) (arrived_as t.frame.head.header refl)

  pub guarded_arrived : IsGuardedFabric (arrived_by w function t (received_at w function t.frame))
  guarded_arrived = subst (λ (o : Option AgentsView). IsGuardedFabric (ended w t o)) (sym (home_at_function w g function t.frame (received_at w function t.frame))) arrived_own

arrived_if : (w w' : World) (g : IsGuardedFabric w) (function : ℕ) (o : Option Taken) → FunctionHome w g function → ((t : Taken) → o ≡ Some t → SoundlyTaken w g (to_function function) t) → arrived w function o ≡ Some w' → IsGuardedFabric w'
arrived_if w w' g function None home out is = absurd cc
arrived_if w w' g function (Some t) home out is = subst IsGuardedFabric (same_Some _ w' is) (guarded_arrived w g function home t (out t refl))

pub guarded_arrive : (w w' : World) (function : ℕ) (class : Class) → IsConsistent w → IsGuardedFabric w → arrive w function class ≡ Some w' → IsGuardedFabric w'
guarded_arrive w w' function class kept g is = by (is_some (place_of_function w.agents.domains function)) refl is
  where
    by : (b : Bool) → is_some (place_of_function w.agents.domains function) ≡ b → cond b (arrived w function (taken w (to_function function) class)) None ≡ Some w' → IsGuardedFabric w'
    by true there is =
        arrived_if w w' g function (taken w (to_function function) class) (function_home w g function (place_of_function w.agents.domains function) refl there)
        (λ t e. soundly_taken w kept g (to_function function) class (sender_of w.tree.links (to_function function)) t refl e) is
    by false there is = absurd cc
